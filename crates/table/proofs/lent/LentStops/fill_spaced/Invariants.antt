-- `table::LentStops::fill_spaced` meets its contract. The invariant: the colors stand up to k, and the positions before `place` are at or below k's location.
-- Assumes nothing.
use mathlib.Core.Path.{◌≡◌}
use Prim.Native.Nat.{ℕ, ◌+◌, ◌-◌, ◌*◌, ◌≤◌, ◌<◌}
use lib.ListN.{length, get_or}
use Rattle.table.specs.Table.{entry_at, Stored}
use Rattle.table.proofs.lent.LentStops.fill_spaced.Given as goal

abbrev pub invariant-loop-k : goal.invariant-loop-k
invariant-loop-k l = Stored (entry_at l.self.positions.now l.self.values.now l.first l.stride) 0 l.k l.initial.t l.t × (l.k ≤ l.n) × (length l.t ≡ length l.initial.t) × (l.place ≤ length l.self.positions.now)
    × ((i : ℕ) → i < l.place → get_or l.self.positions.now i 0 ≤ l.first + l.k * l.stride)

abbrev pub decreases-loop-k : goal.decreases-loop-k
decreases-loop-k l = l.n - l.k
