-- `table::LentStops::fill_each` meets its contract. The invariant: the colors stand from `at` up to k. Assumes nothing.
use mathlib.Core.Path.{◌≡◌}
use lib.ListN.{length}
use Rattle.table.specs.Table.{entry_at, Stored}
use Rattle.table.proofs.lent.LentStops.fill_each.Given as goal

abbrev pub invariant-loop-k : goal.invariant-loop-k
invariant-loop-k l = Stored (entry_at l.self.positions.now l.self.values.now l.first l.stride) l.at l.k l.initial.t l.t × (length l.t ≡ length l.initial.t)
