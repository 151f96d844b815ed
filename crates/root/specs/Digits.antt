-- The number of binary digits, by which document 02 counts the rounds of a root: "exactly as many as the root has digits, none for root 0, so never above 32".
-- Assumes nothing.
use Rattle.std.specs.Prelude.{ℕ, zero, suc, ◌+◌, ◌/◌}

-- in at most `rounds` rounds: 0 has none, any other number one more than its half
unfoldable pub digits_in : ℕ → ℕ → ℕ
digits_in zero n = 0
digits_in (suc rounds) zero = 0
digits_in (suc rounds) (suc n) = digits_in rounds (suc n / 2) + 1

-- How many binary digits n has; n rounds are always enough. By the law `digits-exactly` there are k of them exactly when 2^(k−1) ≤ n < 2^k, for k from 1
-- up, and by `digits-none` only 0 has none.
unfoldable pub digits_of : ℕ → ℕ
digits_of n = digits_in n n
