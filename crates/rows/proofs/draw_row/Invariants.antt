-- `rows::draw_row` meets its contract. The invariant: the first i pixels of the row stand from `at` on. Assumes nothing.
use mathlib.Core.Path.{◌≡◌}
use lib.ListN.{length}
use Rattle.picture.specs.Picture.{row, patched}
use Rattle.rows.specs.Pixel.{ramp_pixel}
use Rattle.rows.proofs.draw_row.Given as goal

abbrev pub invariant-loop-i : goal.invariant-loop-i
invariant-loop-i l = (l.buf ≡ patched l.initial.buf l.at (row (ramp_pixel l.ramp l.l l.w l.h) l.i l.j)) × (length l.buf ≡ length l.initial.buf)
