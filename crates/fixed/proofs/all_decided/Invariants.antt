-- `fixed::all_decided` meets its contract. The invariant: l ends the next place, and where nothing was counted the places so far are decided.
-- Assumes nothing.
use Rattle.std.proofs.Common.{◌≡◌, ℕ, ◌+◌, ◌*◌, ◌%◌, ◌<◌, ◌≤◌}
use Rattle.fixed.specs.Steps.{Decided}
use Rattle.fixed.proofs.all_decided.Given as goal

abbrev pub invariant-loop : goal.invariant-loop
invariant-loop l = (l.l ≡ (l.low + l.step * l.counter) % 4294967296) × (l.undecided ≤ l.counter) × (l.undecided ≡ 0 → (m : ℕ) → m < l.counter → Decided (l.low + l.step * m))
