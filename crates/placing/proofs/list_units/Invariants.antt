-- `placing::list_units` meets its contract. The loop's invariant: the first i positions are in units.
-- Assumes nothing.
use mathlib.Core.Path.{◌≡◌}
use mathlib.Core.List.{map}
use lib.ListN.{length, take}
use Rattle.placing.specs.Placed.{spots_of}
use Rattle.placing.specs.Represented.{spot}
use Rattle.placing.proofs.list_units.Given as goal

abbrev pub invariant-loop-i : goal.invariant-loop-i
invariant-loop-i l = (length l.ps ≡ 16) × (map spot (take l.i l.ps) ≡ spots_of l.line (take l.i l.fn.stops))
