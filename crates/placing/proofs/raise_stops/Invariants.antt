-- `placing::raise_stops` meets its contract. The loop's invariant: what is raised, and what raising makes of the rest.
-- Assumes nothing.
use mathlib.Core.Path.{◌≡◌}
use mathlib.Core.List.{map, ◌++◌}
use lib.ListN.{length, drop, take}
use Rattle.numbers.specs.Biased.{unbiased}
use Rattle.placing.specs.Spot.{at}
use Rattle.placing.specs.Fixup.{raised, raised_from}
use Rattle.placing.specs.Represented.{spot}
use Rattle.placing.proofs.raise_stops.Given as goal

abbrev pub invariant-loop-p : goal.invariant-loop-p
invariant-loop-p l = (length l.ps ≡ length l.initial.ps)
    × (map spot (take l.p-index l.ps) ++ raised_from (at (unbiased l.greatest)) (map spot (drop l.p-index l.ps)) ≡ raised (map spot l.initial.ps))
