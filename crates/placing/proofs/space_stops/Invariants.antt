-- `placing::space_stops` meets its contract. The loop's invariant: what is spaced, and what spacing makes of the rest.
-- Assumes nothing.
use mathlib.Core.Path.{◌≡◌}
use mathlib.Core.List.{map, ◌++◌}
use Prim.Native.Nat.{◌≤◌, ◌<◌, ◌+◌}
use lib.ListN.{length, drop, take}
use Rattle.numbers.specs.Biased.{unbiased}
use Rattle.placing.specs.Fixup.{spaced, spaced_from}
use Rattle.placing.specs.Represented.{spot, Ready}
use Rattle.placing.proofs.space_stops.Given as goal

abbrev pub invariant-loop-i : goal.invariant-loop-i
invariant-loop-i l = (length l.out ≡ 16) × (0 < l.m) × (l.m ≤ l.i + 1) × Ready (unbiased l.a) (map spot (drop l.i l.fn.ps))
    × (map unbiased (take l.i l.out) ++ spaced_from (unbiased l.a) l.m (map spot (drop l.i l.fn.ps)) ≡ spaced (map spot l.fn.ps))
