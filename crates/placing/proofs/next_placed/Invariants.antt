-- `placing::next_placed` meets its contract. The loop's invariant: the next placed stop from there on is the one from the start on.
-- Assumes nothing.
use mathlib.Core.Path.{◌≡◌}
use mathlib.Core.List.{map}
use Prim.Native.Nat.{◌+◌}
use lib.ListN.{drop}
use Rattle.placing.specs.Fixup.{next, run}
use Rattle.placing.specs.Represented.{spot}
use Rattle.placing.proofs.next_placed.Given as goal

abbrev pub invariant-loop-run : goal.invariant-loop-run
invariant-loop-run l = (next (map spot (drop l.run l.fn.ps)) ≡ next (map spot l.fn.ps))
    × (l.run + run (map spot (drop l.run l.fn.ps)) ≡ run (map spot l.fn.ps))
