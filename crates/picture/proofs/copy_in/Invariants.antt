-- `picture::copy_in` meets its contract. The loop's invariant: the bytes of the first blocks are copied.
-- Assumes nothing.
use Rattle.std.proofs.Common.{◌≡◌, ◌*◌, take, length, min}
use Rattle.picture.specs.Picture.{patched}
use Rattle.picture.proofs.copy_in.Given as goal

abbrev pub invariant-loop-block : goal.invariant-loop-block
invariant-loop-block l = l.buf ≡ patched l.fn.buf l.at (take (min (2048 * l.block) (length l.bytes)) l.bytes)
