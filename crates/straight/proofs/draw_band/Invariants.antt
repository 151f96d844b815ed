-- `straight::draw_band` meets its contract. The invariant: the columns up to i are drawn. Assumes nothing.
use mathlib.Core.Path.{◌≡◌}
use Prim.Native.Nat.{◌-◌, ◌≤◌}
use lib.ListN.{length}
use Rattle.line.specs.declared.Line.TheVariants as L
use Rattle.rows.specs.Pixel.{ramp_pixel}
use Rattle.straight.specs.Begun.{Continued}
use Rattle.straight.proofs.draw_band.Given as goal

abbrev pub invariant-loop-i : goal.invariant-loop-i
invariant-loop-i l = (l.from ≤ l.i) × (l.i ≤ l.end) × (length l.buf ≡ length l.initial.buf)
    × Continued (ramp_pixel l.ramp (L.Straight l.v) l.z.w l.z.h) l.z.w l.z.a l.z.b l.from l.i l.at l.initial.buf l.buf

abbrev pub decreases-loop-i : goal.decreases-loop-i
decreases-loop-i l = l.end - l.i
