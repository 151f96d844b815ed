-- `rowparts::draw_by_locations` meets its contract. The invariant: the first k pixels stand from `at` on. Assumes nothing.
use Rattle.std.proofs.Common.{◌≡◌}
use Rattle.line.specs.declared.Line.TheVariants as L
use Rattle.picture.specs.Picture.{part, patched}
use Rattle.rows.specs.Pixel.{ramp_pixel}
use Rattle.rowparts.proofs.draw_by_locations.Given as goal

abbrev pub invariant-loop-k : goal.invariant-loop-k
invariant-loop-k l = l.buf ≡ patched l.initial.buf l.at (part (ramp_pixel l.ramp (L.Straight l.v) l.z.w l.z.h) l.i l.k l.j)
