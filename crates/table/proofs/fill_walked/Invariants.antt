-- `table::fill_walked` meets its contract. The invariant: the colors stand from `at` up to k, and the walks are there. Assumes nothing.
use mathlib.Core.Path.{◌≡◌}
use Prim.Native.Nat.{◌-◌, ◌≤◌, ◌<◌}
use lib.ListN.{length}
use Rattle.table.specs.Table.{walked_at, Reached, Stored}
use Rattle.table.proofs.fill_walked.Given as goal

abbrev pub invariant-loop-k : goal.invariant-loop-k
invariant-loop-k l = Stored (walked_at l.values l.i l.g l.stride l.x l.at) l.at l.k l.initial.t l.t
    × (l.k < l.end → Reached l.values l.i l.g l.stride l.x l.at l.k l.w) × (l.at ≤ l.k) × (l.k ≤ l.end) × (length l.t ≡ length l.initial.t)

abbrev pub decreases-loop-k : goal.decreases-loop-k
decreases-loop-k l = l.end - l.k
