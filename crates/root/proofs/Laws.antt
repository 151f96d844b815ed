-- The laws of the root rule: `root_of` is the greatest q with q²·n ≤ x, no other number is, and it is the root of x / n.
-- Assumes nothing.
use Rattle.std.proofs.Common.{◌≡◌, ℕ, zero, suc, ◌+◌, ◌*◌, ◌/◌, ◌<◌, ◌≤◌, Bool, true, false, cond, leb, refl, le_refl, mul-le-mul_right, div-lt_iff_lt-mul, mul-le-mul, le_antisymm, le-div_iff_mul-le, mul-one, arith, leb-false, leb-true}
use native.Mathlib.Decide.{dec_le}
use Rattle.root.specs.Root.{IsRoot, digit, root_in, root_of}

-- a number with which the rule holds is at most one whose successor breaks it
pub root-le : (n x p q : ℕ) → p * p * n ≤ x → x < (q + 1) * (q + 1) * n → p ≤ q
root-le n x p q low high = either (dec_le p q)
  where
    either : Dec (p ≤ q) → p ≤ q
    either (yes h) = h
    either (no f) =
        let above : q + 1 ≤ p = omega arith in
        omega (arith, mul-le-mul_right n (mul-le-mul above above))

-- it is the only one
pub root-unique : (n x p q : ℕ) → IsRoot n x p → IsRoot n x q → p ≡ q
root-unique n x p q a b = le_antisymm (root-le n x p q a.low b.high) (root-le n x q p b.low a.high)

-- one more binary digit: from the root at x / 4 to the root at x
digit-is : (n x r : ℕ) → IsRoot n (x / 4) r → IsRoot n x (digit n x r)
digit-is n x r h = go (leb ((2 * r + 1) * (2 * r + 1) * n) x) refl
  where
    go : (b : Bool) → leb ((2 * r + 1) * (2 * r + 1) * n) x ≡ b → IsRoot n x (cond b (2 * r + 1) (2 * r))
    go true e = record { low = leb-true _ _ e; high = omega (arith, h.high) }
    go false e = record { low = omega (arith, h.low); high = leb-false _ _ e }

root-in-is : (rounds n x : ℕ) → 0 < n → x ≤ rounds → IsRoot n x (root_in rounds n x)
unfolding root_in
root-in-is zero n x p h = record { low = omega arith; high = omega arith }
root-in-is (suc k) n zero p h = record { low = omega arith; high = omega arith }
root-in-is (suc k) n (suc x) p h = digit-is n (suc x) (root_in k n (suc x / 4)) (root-in-is k n (suc x / 4) p (omega arith))

-- it holds
pub root_is : (n x : ℕ) → 0 < n → IsRoot n x (root_of n x)
unfolding root_of
root_is n x p = root-in-is x n x p (le_refl x)

-- whatever the rule describes is the function's value
pub root-eq : (n x q : ℕ) → 0 < n → IsRoot n x q → q ≡ root_of n x
root-eq n x q p h = root-unique n x q (root_of n x) h (root_is n x p)

-- it is the greatest: no number with which the rule holds is above it
pub root-greatest : (n x p : ℕ) → 0 < n → p * p * n ≤ x → p ≤ root_of n x
root-greatest n x p h low = root-le n x p (root_of n x) low (root_is n x h).high

-- it is at most every number whose successor breaks the rule
pub root-most : (n x q : ℕ) → 0 < n → x < (q + 1) * (q + 1) * n → root_of n x ≤ q
root-most n x q h high = root-le n x (root_of n x) q (root_is n x h).low high

-- the greatest q with q²·n ≤ x is the root of x / n
pub root-div : (n x : ℕ) → 0 < n → root_of 1 (x / n) ≡ root_of n x
root-div n x p = root-eq n x (root_of 1 (x / n)) p (record {
  low = (le-div_iff_mul-le p).0 (rw mul-one at h.low);
  high = (div-lt_iff_lt-mul p).0 (rw mul-one at h.high);
})
  where
    h : IsRoot 1 (x / n) (root_of 1 (x / n))
    h = root_is 1 (x / n) (omega arith)
