-- The invariant: so many bytes as places are written.
use Rattle.std.proofs.Common.{◌≡◌}
use Rattle.texts.proofs.read_line.Given as goal

abbrev pub invariant-loop-place : goal.invariant-loop-place
invariant-loop-place l = l.n ≡ l.place-index
