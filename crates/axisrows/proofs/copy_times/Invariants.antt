-- The invariant: the bytes stand j times.
use Rattle.std.proofs.Common.{◌≡◌, length}
use Rattle.picture.specs.Picture.{copies, patched}
use Rattle.axisrows.proofs.copy_times.Given as goal

abbrev pub invariant-loop-j : goal.invariant-loop-j
invariant-loop-j l = record { copied : l.buf ≡ patched l.initial.buf 0 (copies l.j l.bytes); len : length l.buf ≡ length l.initial.buf }
