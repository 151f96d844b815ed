-- `drawing::draw_placed` meets its contract. Assumes nothing.
use mathlib.Core.Path.{◌≡◌, refl, sym, ap, ◌∙◌}
use mathlib.Core.List.{map}
use Prim.Native.Nat.{◌-◌, ◌*◌, ◌<◌}
use native.Mathlib.Omega.{arith}
use lib.ListN.{length, length-map}
use lib.Seq.{length-take-le}
use Rattle.line.specs.Represented.{rule_in}
use Rattle.stops.specs.Check.{placed_of}
use Rattle.gradient.proofs.Lists.{unmapped}
use Rattle.color.specs.Stop.{stop_of}
use Rattle.color.specs.Paint.{paint_of}
use Rattle.color.proofs.Paint.{ordered}
use Rattle.picture.specs.Picture.{strip, patched}
use Rattle.picture.proofs.Patches.{painted}
use Rattle.picture.proofs.Rows.{strip-length}
use Rattle.rows.specs.Pixel.{pixel_of}
use Rattle.drawing.proofs.Accepted.{same-picture}
use borrow.Author.Rules.{rules}
use Rattle.drawing.proofs.draw_placed.Goals as goal

pub returns : goal.returns
returns c =
    let a = c.args in
    let m = c.set_stops.ensures in
    let paint = paint_of a.repeating (map stop_of (placed_of a.p)) in
    let px = pixel_of (rule_in a.l a.z.w a.z.h) paint in
    let full : length a.p.stops ≡ 16 = search (unmapped, rules) in
    let two : 1 < length (placed_of a.p) = omega (arith, length-take-le a.p.count a.p.stops (omega (arith, c.requires.1.fit)), c.requires.2) in
    record {
      left = c.clear_from.ensures
          ∙ painted a.buf.now (strip px a.z.w a.z.a a.z.b) _ (4 * a.z.w * (a.z.b - a.z.a))
          (sym (strip-length px (λ i j. refl) a.z.w a.z.a a.z.b)) c.requires.3.room
          (c.draw.ensures ∙ ap (patched a.buf.now 0) (same-picture paint _ m.0 a.l a.z));
      two = rw length-map two;
      ordered = ordered (placed_of a.p) c.requires.1.rising (omega arith);
      colors = m.1;
    }
