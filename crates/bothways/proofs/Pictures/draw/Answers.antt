-- The stops that are placed in a box are ready to be lent.
use Rattle.std.proofs.Common.{◌≡◌, sym, subst, length, rules}
use Rattle.gradient.proofs.Lists.{unmapped}
use Rattle.placing.proofs.Laws.{placed-accepted}
use Rattle.drawing.proofs.Accepted.{Ready, ready}
use Rattle.bothways.proofs.Pictures.draw.Goals as goal

pub draw_stops-requires : goal.draw_stops-requires
draw_stops-requires c =
    let full : length c.args.g.stops ≡ 16 = search (unmapped, rules) in
    let r : Ready c.place_in_box-p.result =
    subst Ready (sym c.place_in_box-p.ensures) (ready _ (placed-accepted c.args.g c.args.z.w c.args.z.h c.requires.0 c.requires.1 full)) in
    (record { box = c.requires.0; sound = c.line_of-l.ensures.sound }, r.lendable, r.two, c.requires.2)
