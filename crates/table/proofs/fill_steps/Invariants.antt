-- `table::fill_steps` meets its contract. The invariant: the colors stand from `at` up to k, and the walks are there. Assumes nothing.
use mathlib.Core.Path.{◌≡◌}
use mathlib.Core.List.{List}
use Prim.Native.Nat.{ℕ, ◌≤◌, ◌<◌}
use lib.ListN.{length}
use Rattle.table.specs.Table.{walked_at, Reached, Spans, Stored}
use Rattle.table.proofs.fill_steps.Given as goal

abbrev pub invariant-loop-k : goal.invariant-loop-k
invariant-loop-k l = ((vs : List ℕ) (i g s x a : ℕ) → a ≤ l.at → Spans g s x a l.end → (l.at < l.end → Reached vs i g s x a l.at l.initial.w)
    → Stored (walked_at vs i g s x a) l.at l.k l.initial.t l.t × (l.k < l.end → Reached vs i g s x a l.k l.w))
    × (length l.t ≡ length l.initial.t)
