-- `root::find` meets its contract. The loop's invariant: what was brought down of x is q² + rest, and rest is at most 2q.
-- Assumes nothing.
use Rattle.std.proofs.Common.{◌≡◌, ℕ, ◌+◌, ◌-◌, ◌*◌, ◌/◌, ◌^◌, ◌<◌, ◌≤◌}
use Rattle.root.proofs.find.Given as goal

-- q is the root of y, and rest is left
abbrev pub Leaves : ℕ → ℕ → ℕ → Type 0
Leaves y q rest = (q * q + rest ≡ y) × (rest ≤ 2 * q)

abbrev pub invariant-loop-rounds : goal.invariant-loop-rounds
invariant-loop-rounds l = (l.rounds ≤ l.digits) × (l.digits ≤ 32) × (l.q < 4294967296) × Leaves (l.x / 2 ^ (2 * (l.digits - l.rounds))) l.q l.rest

abbrev pub decreases-loop-rounds : goal.decreases-loop-rounds
decreases-loop-rounds l = l.digits - l.rounds
