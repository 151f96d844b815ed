-- `repeats::RepeatedStops::fill_pieces` meets its contract. The invariant: the colors stand up to k. Assumes nothing.
use mathlib.Core.Path.{◌≡◌}
use Prim.Native.Nat.{◌-◌, ◌≤◌}
use lib.ListN.{length}
use Rattle.table.specs.Table.{Stored}
use Rattle.repeats.specs.Repeats.{repeated_at}
use Rattle.repeats.proofs.repeated.RepeatedStops.fill_pieces.Given as goal

abbrev pub invariant-loop-k : goal.invariant-loop-k
invariant-loop-k l = Stored (repeated_at l.self.stops.positions.now l.self.stops.values.now l.first l.stride) 0 l.k l.initial.t l.t × (l.k ≤ l.n) × (length l.t ≡ length l.initial.t)

abbrev pub decreases-loop-k : goal.decreases-loop-k
decreases-loop-k l = l.n - l.k
