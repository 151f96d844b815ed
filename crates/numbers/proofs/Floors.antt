-- What the quotient and the remainder of an integer are, and how they are computed from counts.
-- Assumes nothing.
use mathlib.Core.Path.{◌≡◌, sym, ap, ◌∙◌}
use Prim.Native.Nat.{ℕ, suc, ◌+◌, ◌*◌, ◌-◌, ◌/◌, ◌%◌, ◌≤◌, ◌<◌}
use native.Mathlib.Nat.{mul-add-div_right, mul-add-mod_self_right, div-lt_iff_lt-mul, div-add-mod', mod-lt}
use native.Mathlib.Decide.{dec_le}
use native.Mathlib.Omega.{arith}
use lib.Arith.{digits_div, digits_mod}
use lib.IntN.{ℤ, pos, negsuc, ◌+ℤ◌, ◌*ℤ◌, sub_ℕ}
use Rattle.numbers.specs.Floor.{floor_div, remainder}
use Rattle.numbers.proofs.Integers.{at-pos, at-neg, diff-eq, diff-pos, diff-add, diff-mul}

-- z is d times the quotient and the remainder, and the remainder is below d: the quotient is the greatest whole number not above z / d
pub record IsFloor (z : ℤ) (d : ℕ) (q : ℤ) (r : ℕ) : Type 0 where
  pub whole : q *ℤ pos d +ℤ pos r ≡ z
  pub below : r < d

pub floor-is : (z : ℤ) (d : ℕ) → 0 < d → IsFloor z d (floor_div z d) (remainder z d)
unfolding floor_div remainder
floor-is (pos n) d p = record { whole = ap pos (div-add-mod' n d); below = mod-lt n p }
floor-is (negsuc n) d p =
    let q : ℕ = n / d in
    let r : ℕ = d - 1 - n % d in
    let times : negsuc q *ℤ pos d ≡ sub_ℕ (0 * d) (suc q * d) = ap (λ (z : ℤ). z *ℤ pos d) (minus q) ∙ diff-mul 0 (suc q) d in
    record {
      whole =
          ap (λ (z : ℤ). z +ℤ pos r) times
          ∙ ap (λ (z : ℤ). sub_ℕ (0 * d) (suc q * d) +ℤ z) (diff-pos r)
          ∙ diff-add (0 * d) (suc q * d) r 0
          ∙ diff-eq (0 * d + r) (suc q * d + 0) 0 (suc n) (omega (arith, div-add-mod' n d, mod-lt n p))
          ∙ sym (minus n);
      below = omega (arith, mod-lt n p);
    }
  where
    minus : (n : ℕ) → negsuc n ≡ sub_ℕ 0 (suc n)
    minus n = ap negsuc (omega arith) ∙ sym (at-neg 0 (suc n) (omega arith))

-- a multiple of the divisor comes out of both
module _ (a k d : ℕ) (p : 0 < d) where
  -- a number below k · d, by what is left of the negative quotient
  from-below : (r j : ℕ) → a + suc r ≡ k * d → suc (r / d) + j ≡ k → a ≡ j * d + (d - suc (r % d))
  from-below r j e f = omega (arith, div-add-mod' r d, mod-lt r p, ap (λ (n : ℕ). n * d) f)

  quotient-below : (r : ℕ) → a + suc r ≡ k * d → r / d < k
  quotient-below r e = (div-lt_iff_lt-mul p).1 (omega arith)

  floor-mul : floor_div (sub_ℕ a (k * d)) d ≡ sub_ℕ (a / d) k
  unfolding floor_div
  floor-mul = either (dec_le (k * d) a)
    where
      above : (r : ℕ) → k * d + r ≡ a → pos (r / d) ≡ sub_ℕ (a / d) k
      above r e =
          let q : a / d ≡ k + r / d = ap (λ (n : ℕ). n / d) (sym e) ∙ mul-add-div_right p k r in
          ap pos (omega arith) ∙ sym (at-pos (a / d) k (omega arith))

      below : (r j : ℕ) → a + suc r ≡ k * d → suc (r / d) + j ≡ k → negsuc (r / d) ≡ sub_ℕ (a / d) k
      below r j e f =
          let s : a / d ≡ j = ap (λ (n : ℕ). n / d) (from-below r j e f) ∙ digits_div j (omega (arith, mod-lt r p)) in
          ap negsuc (omega arith) ∙ sym (at-neg (a / d) k (omega arith))

      either : Dec (k * d ≤ a) → floor_div (sub_ℕ a (k * d)) d ≡ sub_ℕ (a / d) k
      either (yes h) = ap (λ (z : ℤ). floor_div z d) (at-pos a (k * d) h) ∙ above (a - k * d) (omega arith)
      either (no f) =
          let r : ℕ = k * d - suc a in
          let q = quotient-below r (omega arith) in
          ap (λ (z : ℤ). floor_div z d) (at-neg a (k * d) (omega arith)) ∙ below r (k - suc (r / d)) (omega arith) (omega arith)

  remainder-mul : remainder (sub_ℕ a (k * d)) d ≡ a % d
  unfolding remainder
  remainder-mul = either (dec_le (k * d) a)
    where
      above : (r : ℕ) → k * d + r ≡ a → r % d ≡ a % d
      above r e = sym (mul-add-mod_self_right k d r) ∙ ap (λ (n : ℕ). n % d) e

      below : (r j : ℕ) → a + suc r ≡ k * d → suc (r / d) + j ≡ k → d - 1 - r % d ≡ a % d
      below r j e f = omega arith ∙ sym (ap (λ (n : ℕ). n % d) (from-below r j e f) ∙ digits_mod j (omega (arith, mod-lt r p)))

      either : Dec (k * d ≤ a) → remainder (sub_ℕ a (k * d)) d ≡ a % d
      either (yes h) = ap (λ (z : ℤ). remainder z d) (at-pos a (k * d) h) ∙ above (a - k * d) (omega arith)
      either (no f) =
          let r : ℕ = k * d - suc a in
          let q = quotient-below r (omega arith) in
          ap (λ (z : ℤ). remainder z d) (at-neg a (k * d) (omega arith)) ∙ below r (k - suc (r / d)) (omega arith) (omega arith)

-- the quotient and the remainder of a − b, computed without a sign: with c added to both, b becomes k times the divisor
module _ (a b c k d : ℕ) (p : 0 < d) (e : b + c ≡ k * d) where
  raised : sub_ℕ a b ≡ sub_ℕ (a + c) (k * d)
  raised = diff-eq a b (a + c) (k * d) (omega arith)

  pub floor-at : floor_div (sub_ℕ a b) d ≡ sub_ℕ ((a + c) / d) k
  floor-at = ap (λ (z : ℤ). floor_div z d) raised ∙ floor-mul (a + c) k d p

  pub remainder-at : remainder (sub_ℕ a b) d ≡ (a + c) % d
  remainder-at = ap (λ (z : ℤ). remainder z d) raised ∙ remainder-mul (a + c) k d p
