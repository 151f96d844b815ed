-- The root rule of document 01's grid, said once for line lengths, radii and locations: "the greatest q with q²·n ≤ x".
-- Assumes nothing.
use Rattle.std.specs.Prelude.{ℕ, zero, suc, ◌+◌, ◌*◌, ◌/◌, ◌<◌, ◌≤◌, cond, nat_le}

-- q is the greatest number with q²·n ≤ x: the rule holds with q, and with q + 1 it does not
pub record IsRoot (n x q : ℕ) : Type 0 where
  pub low : q * q * n ≤ x
  pub high : x < (q + 1) * (q + 1) * n

-- r with one more binary digit, the greater one that keeps the rule at x
abbrev pub digit : ℕ → ℕ → ℕ → ℕ
digit n x r = cond (nat_le ((2 * r + 1) * (2 * r + 1) * n) x) (2 * r + 1) (2 * r)

-- in at most `rounds` rounds: the root at x / 4, with one more binary digit
unfoldable pub root_in : ℕ → ℕ → ℕ → ℕ
root_in zero n x = 0
root_in (suc rounds) n zero = 0
root_in (suc rounds) n (suc x) = digit n (suc x) (root_in rounds n (suc x / 4))

-- The number that `IsRoot` describes, in a form that computes; x rounds are always enough. For n above 0 the law `root_is` shows
-- that it is the greatest, and `root-unique` that no other number is.
unfoldable pub root_of : ℕ → ℕ → ℕ
root_of n x = root_in x n x
