-- The number of binary digits: what it means, what leading zeros say of it, and that a root has half as many as its number, rounded up.
-- Assumes nothing.
use Rattle.std.proofs.Common.{◌≡◌, ℕ, zero, suc, ◌+◌, ◌-◌, ◌*◌, ◌/◌, ◌^◌, ◌<◌, ◌≤◌, ◌↔◌, sym, ap, ◌∙◌, le_trans, le_refl, lt_of_lt_of_le, le_of_suc-le-suc, mul-le-mul, le_antisymm, pow-suc, lt_of_not-le, arith, pow_mono, pow-add}
use native.Mathlib.Nat.{div-eq_of_lt}
use lib.Count.{count_leading_zeros, leading_length}
use Rattle.root.specs.Root.{root_of}
use Rattle.root.specs.Digits.{digits_in, digits_of}
use Rattle.root.proofs.Laws.{root_is, root-greatest}

-- k digits hold n, and fewer do not
abbrev Takes : ℕ → ℕ → Type 0
Takes n k = (n < 2 ^ k) × ((j : ℕ) → j < k → 2 ^ j ≤ n)

-- one more than the half has
one_more : (n k : ℕ) → 0 < n → Takes (n / 2) k → Takes n (k + 1)
one_more n k p h = (omega (arith, h.0, pow-add 2 k 1), least)
  where
    least : (j : ℕ) → j < k + 1 → 2 ^ j ≤ n
    least zero l = p
    least (suc j) l = omega (arith, h.1 j (omega arith), pow-suc 2 j)

digits-in-are : (rounds n : ℕ) → n ≤ rounds → Takes n (digits_in rounds n)
unfolding digits_in
digits-in-are zero n h = (omega arith, λ j l. absurd (omega arith))
digits-in-are (suc k) zero h = (omega arith, λ j l. absurd (omega arith))
digits-in-are (suc k) (suc n) h = one_more (suc n) (digits_in k (suc n / 2)) (omega arith) (digits-in-are k (suc n / 2) (omega arith))

digits_are : (n : ℕ) → Takes n (digits_of n)
unfolding digits_of
digits_are n = digits-in-are n n (le_refl n)

takes-le : (n j k : ℕ) → Takes n j → Takes n k → j ≤ k
takes-le n j k a b = le_of_suc-le-suc (lt_of_not-le (λ (l : k < j). omega (arith, a.1 k l, b.0)))

-- no other number of digits is
digits-eq : (n k : ℕ) → Takes n k → digits_of n ≡ k
digits-eq n k h = le_antisymm (takes-le n (digits_of n) k (digits_are n) h) (takes-le n k (digits_of n) h (digits_are n))

-- n has k binary digits exactly when 2^(k−1) ≤ n < 2^k, for k from 1 up
pub digits-exactly : (n k : ℕ) → 0 < k → (digits_of n ≡ k) ↔ (2 ^ (k - 1) ≤ n) × (n < 2 ^ k)
digits-exactly n k p = (
  λ e. ((digits_are n).1 (k - 1) (omega (arith, e)), rw e at (digits_are n).0),
  λ h. digits-eq n k (h.1, λ j l. le_trans (pow_mono (omega arith)) h.0),
)

-- only 0 has none
pub digits-none : (n : ℕ) → (digits_of n ≡ 0) ↔ (n ≡ 0)
digits-none n = (
  λ e. omega (arith, rw e at (digits_are n).0),
  λ e. digits-eq n 0 (omega (arith, e), λ j l. absurd (omega arith)),
)

-- the leading zeros of a number in k places, and its digits, make k
pub digits-leading : (k n : ℕ) → n < 2 ^ k → count_leading_zeros k n + digits_of n ≡ k
digits-leading k n h = rw (digits-eq n l.0 (l.2, λ j lt. omega (arith, le_trans (pow_mono {i = suc j} {j = l.0} lt) l.3, pow-suc 2 j))) l.1
  where
    l : (m : ℕ) × (count_leading_zeros k n + m ≡ k) × (n < 2 ^ m) × (2 ^ m ≤ 2 * n + 1)
    l = leading_length k n h

square : (k : ℕ) → 2 ^ k * 2 ^ k ≡ 2 ^ (2 * k)
square k = sym (pow-add 2 k k) ∙ ap (λ (e : ℕ). 2 ^ e) (omega arith)

hold : (x : ℕ) → x < 2 ^ (2 * ((digits_of x + 1) / 2))
hold x = lt_of_lt_of_le (digits_are x).0 (pow_mono (omega arith))

-- a root has half as many digits as its number, rounded up
pub digits-root : (x : ℕ) → digits_of (root_of 1 x) ≡ (digits_of x + 1) / 2
digits-root x = digits-eq (root_of 1 x) d (lt_of_not-le below, λ j l. root-greatest 1 x (2 ^ j) (omega arith) (omega (arith, (digits_are x).1 (2 * j) (omega arith), square j)))
  where
    d : ℕ
    d = (digits_of x + 1) / 2

    below : 2 ^ d ≤ root_of 1 x → ⊥
    below h = omega (arith, hold x, square d, mul-le-mul h h, (root_is 1 x (omega arith)).low)

-- so the root of a 64-bit number has at most 32
pub digits-most : (x : ℕ) → x < 2 ^ 64 → digits_of (root_of 1 x) ≤ 32
digits-most x h = omega (arith, digits-root x, digits-leading 64 x h)

-- and twice as many as the root has hold the number
pub digits-hold : (x : ℕ) → x / 2 ^ (2 * digits_of (root_of 1 x)) ≡ 0
digits-hold x = div-eq_of_lt (rw (digits-root x) (hold x))
