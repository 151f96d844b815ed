-- `placing::attach` meets its contract. The loop's invariant: the stops before i are at their positions, and the other places are blank.
-- Assumes nothing.
use mathlib.Core.Path.{◌≡◌}
use Rattle.placing.specs.Placed.{listed}
use Rattle.placing.proofs.Whole.{up_to}
use Rattle.placing.proofs.attach.Given as goal

abbrev pub invariant-loop-i : goal.invariant-loop-i
invariant-loop-i l = l.out ≡ (listed (up_to l.fn.stops l.ps l.i)).stops
