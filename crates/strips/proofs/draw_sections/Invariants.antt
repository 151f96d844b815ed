-- `strips::draw_sections` meets its contract. The invariant: the first i columns are drawn. Assumes nothing.
use mathlib.Core.Path.{◌≡◌}
use Prim.Native.Nat.{◌-◌, ◌≤◌}
use lib.ListN.{length}
use Rattle.line.specs.declared.Line.TheVariants as L
use Rattle.rows.specs.Pixel.{ramp_pixel}
use Rattle.straight.specs.Begun.{standing, Begun}
use Rattle.strips.proofs.draw_sections.Given as goal

abbrev pub invariant-loop-i : goal.invariant-loop-i
invariant-loop-i l = Begun (ramp_pixel l.stops (L.Straight l.v) l.z.w l.z.h) l.z.w l.z.a l.z.b l.i (standing l.initial.buf 0 l.z.w l.z.a) l.initial.buf 0 l.buf × (l.i ≤ l.z.w) × (length l.ramp ≡ length l.initial.ramp) × (length l.buf ≡ length l.initial.buf)

abbrev pub decreases-loop-i : goal.decreases-loop-i
decreases-loop-i l = l.z.w - l.i
