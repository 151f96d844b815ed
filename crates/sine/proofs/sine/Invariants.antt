-- `sine::sine` meets its contract: the code's table is the list of differences, and the sum a rebuilt sine after each round.
-- Assumes nothing.
use Rattle.std.proofs.Common.{◌≡◌, take}
use Rattle.sine.specs.Sines.{sines}
use Rattle.sine.specs.Differences.{differences_of, rebuilt_of}
use Rattle.sine.proofs.sine.Given as goal

abbrev pub invariant-loop-difference : goal.invariant-loop-difference
invariant-loop-difference l = (l.difference-items ≡ take l.k (differences_of sines)) × (l.sum ≡ rebuilt_of l.difference-index)
