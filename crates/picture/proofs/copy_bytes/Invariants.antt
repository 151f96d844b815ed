-- `picture::copy_bytes` meets its contract. The loop's invariant: the first i bytes stand at both places.
-- Assumes nothing.
use Rattle.std.proofs.Common.{◌≡◌, length, take, drop}
use Rattle.picture.specs.Picture.{patched}
use Rattle.picture.proofs.copy_bytes.Given as goal

abbrev pub invariant-loop-i : goal.invariant-loop-i
invariant-loop-i l = (l.buf ≡ patched l.fn.buf l.to (take l.i (drop l.from l.fn.buf))) × (length l.buf ≡ length l.fn.buf)
