-- `circle::draw_row` meets its contract. The invariant: the first i pixels of the row stand from `at` on. Assumes nothing.
use mathlib.Core.Path.{◌≡◌}
use Rattle.line.specs.declared.Line.TheVariants as L
use Rattle.picture.specs.Picture.{row, patched}
use Rattle.rows.specs.Pixel.{ramp_pixel}
use Rattle.circleroots.specs.Squares.{Known}
use Rattle.circle.proofs.draw_row.Given as goal

abbrev pub invariant-loop-i : goal.invariant-loop-i
invariant-loop-i l = (l.buf ≡ patched l.initial.buf l.at (row (ramp_pixel l.ramp (L.Circle l.c) l.fn.z.w l.fn.z.h) l.i l.j)) × Known l.c l.i l.j l.guesses
