-- `picture::copy_row` meets its contract. The loop's invariant: the bytes of the first blocks are copied.
-- Assumes nothing.
use Rattle.std.proofs.Common.{◌≡◌, ◌*◌, take, drop, min}
use Rattle.picture.specs.Picture.{patched}
use Rattle.picture.proofs.copy_row.Given as goal

abbrev pub invariant-loop-block : goal.invariant-loop-block
invariant-loop-block l = l.buf ≡ patched l.fn.buf l.to (take (min (2048 * l.block) l.n) (drop l.from l.fn.buf))
