-- `rows::draw_each` meets its contract. The invariant: the rows from a up to j stand from the buffer's start on. Assumes nothing.
use mathlib.Core.Path.{◌≡◌}
use lib.ListN.{length}
use Rattle.picture.specs.Picture.{strip, patched}
use Rattle.rows.specs.Pixel.{ramp_pixel}
use Rattle.rows.proofs.draw_each.Given as goal

abbrev pub invariant-loop-j : goal.invariant-loop-j
invariant-loop-j l = (l.buf ≡ patched l.initial.buf 0 (strip (ramp_pixel l.ramp l.l l.z.w l.z.h) l.z.w l.z.a l.j)) × (length l.buf ≡ length l.initial.buf)
