-- `repeats::copy_on` meets its contract. The invariant: the entries from q up to k are f's, where f comes again after q. Assumes nothing.
use Rattle.std.proofs.Common.{◌≡◌, ℕ, ◌+◌, ◌<◌, length, get_or}
use Rattle.table.specs.Table.{Stored}
use Rattle.repeats.proofs.copy_on.Given as goal

abbrev pub invariant-loop-k : goal.invariant-loop-k
invariant-loop-k l = ((f : ℕ → ℕ) → ((i : ℕ) → i < l.q → i < length l.initial.t → get_or l.initial.t i 0 ≡ f i) → ((i : ℕ) → f (i + l.q) ≡ f i) → Stored f l.q l.k l.initial.t l.t)
    × (length l.t ≡ length l.initial.t)
