-- `straight::draw_columns` meets its contract. The invariant: the rows before row j have the columns up to i + n, those from there on up to i.
-- Assumes nothing.
use mathlib.Core.Path.{◌≡◌}
use mathlib.Core.List.{List, ◌++◌}
use Prim.Native.Nat.{ℕ, ◌+◌}
use lib.ListN.{length}
use Rattle.line.specs.declared.Line.TheVariants as L
use Rattle.picture.specs.Picture.{strip, patched}
use Rattle.rows.specs.Pixel.{ramp_pixel}
use Rattle.straight.specs.Begun.{up_to, Begun}
use Rattle.straight.proofs.draw_columns.Given as goal

abbrev pub invariant-loop-j : goal.invariant-loop-j
invariant-loop-j l = (f : ℕ → ℕ → List ℕ) (d : List ℕ) → ((k y : ℕ) → length (f k y) ≡ 4) → length d ≡ length l.initial.buf → Begun (ramp_pixel l.ramp (L.Straight l.v) l.z.w l.z.h) l.z.w l.z.a l.z.b l.i f d l.at l.initial.buf
    → l.buf ≡ patched d l.at (strip (up_to (ramp_pixel l.ramp (L.Straight l.v) l.z.w l.z.h) (l.i + l.n) f) l.z.w l.z.a l.j ++ strip (up_to (ramp_pixel l.ramp (L.Straight l.v) l.z.w l.z.h) l.i f) l.z.w l.j l.z.b)
