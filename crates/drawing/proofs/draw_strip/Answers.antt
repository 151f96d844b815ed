-- `drawing::draw_strip` meets its contract. Assumes nothing.
use mathlib.Core.Path.{◌≡◌, sym, ap, ◌∙◌, subst}
use lib.ListN.{length}
use Rattle.gradient.proofs.Lists.{unmapped}
use Rattle.stops.specs.Check.{placed_of}
use Rattle.placing.proofs.Laws.{listed-is, placed-accepted}
use Rattle.drawing.proofs.Accepted.{Ready, ready, painted_same}
use borrow.Author.Rules.{rules}
use Rattle.drawing.proofs.draw_strip.Goals as goal
use Rattle.drawing.proofs.draw_strip.Goals.{After-place_in_box-p}

placed_ready : (c : After-place_in_box-p) → Ready c.place_in_box-p.result
placed_ready c =
    let full : length c.args.g.stops ≡ 16 = search (unmapped, rules) in
    subst Ready (sym c.place_in_box-p.ensures) (ready _ (placed-accepted c.args.g c.args.z.w c.args.z.h c.requires.0 c.requires.1 full))

pub draw_placed-requires : goal.draw_placed-requires
draw_placed-requires c =
    let r : Ready c.place_in_box-p.result = placed_ready (goal.at.draw_placed-requires c).After-place_in_box-p in
    (record { box = c.requires.0; sound = c.line_of-l.ensures.sound }, r.lendable, r.two, c.requires.2)

pub returns : goal.returns
returns c = painted_same c.line_of-l.ensures.is (ap placed_of c.place_in_box-p.ensures ∙ listed-is _) c.draw_placed.ensures
