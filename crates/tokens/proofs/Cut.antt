-- What the cut of a number changes: nothing that a range can tell. A number that is in a range is not changed at all.
-- Assumes nothing.
use mathlib.Core.Path.{◌≡◌, refl, sym, ap, ◌∙◌}
use mathlib.Core.Bool.{Bool, true, false, ◌&&◌, false≢true}
use mathlib.Core.List.{List}
use Prim.Native.Nat.{ℕ, zero, suc, ◌≤◌, min}
use native.Mathlib.Decide.{dec_le}
use native.Mathlib.Omega.{arith}
use lib.Dec.{eqb}
use lib.IntN.{ℤ, pos, negsuc, neg_ℤ, nat_abs}
use lib.Signed.{non_neg}
use borrow.Author.Tests.{lt-leb, eq-eqb, ne_eqb}
use Rattle.gradient.specs.Range.{length_in, radius_in, percentage_in, angle_in}
use Rattle.text.specs.Text.{map_read}
use Rattle.text.proofs.Laws.{map-inside}
use Rattle.tokens.specs.Number.{after_sign, magnitude_of, unit_of, signed, number_of, exact}
use Rattle.tokens.specs.Cut.{most, cut, cut_number, up_to}

-- the code's number is the paper's, cut off
pub number_cut : (l : List ℕ) → number_of cut l ≡ map_read cut_number (number_of exact l)
unfolding number_of
number_cut l = sym (map-inside cut_number _ _ (λ n k. map-inside cut_number _ _ (λ u e. refl) (unit_of n k)) (magnitude_of (after_sign l)))

pub abs-cut : (z : ℤ) → nat_abs (cut z) ≡ min (nat_abs z) most
unfolding cut
abs-cut (pos n) = refl
abs-cut (negsuc n) = go (min (suc n) most)
  where
    go : (m : ℕ) → nat_abs (neg_ℤ (pos m)) ≡ m
    go zero = refl
    go (suc m) = refl

pub cut_small : (z : ℤ) → nat_abs z ≤ most → cut z ≡ z
unfolding cut
cut_small (pos n) h = ap pos (omega arith)
cut_small (negsuc n) h = let e : min (suc n) most ≡ suc n = omega arith in rw e

pub cut-signed : (b : Bool) (n : ℕ) → cut (signed b n) ≡ signed b (up_to n)
unfolding cut
cut-signed true zero = refl
cut-signed true (suc n) = refl
cut-signed false n = refl

-- a test that fails from where the cut is on
module _ (p : ℤ → Bool) (far : (z : ℤ) → most ≤ nat_abs z → p z ≡ false) (z : ℤ) where
  test-cut : p (cut z) ≡ p z
  test-cut = either (dec_le (nat_abs z) most)
    where
      either : Dec (nat_abs z ≤ most) → p (cut z) ≡ p z
      either (yes h) = ap p (cut_small z h)
      either (no f) = far (cut z) (omega (arith, abs-cut z)) ∙ sym (far z (omega arith))

  test-kept : p z ≡ true → cut z ≡ z
  test-kept t = either (dec_le (nat_abs z) most)
    where
      either : Dec (nat_abs z ≤ most) → cut z ≡ z
      either (yes h) = cut_small z h
      either (no f) = absurd (false≢true (sym (far z (omega arith)) ∙ t))

module _ (z : ℤ) (h : most ≤ nat_abs z) where
  length-far : length_in z ≡ false
  length-far = lt-leb (nat_abs z) 8192000 (omega arith)

  radius-far : radius_in z ≡ false
  radius-far = rw length-far (go (non_neg z))
    where
      go : (t : Bool) → (t && false) ≡ false
      go true = refl
      go false = refl

  percentage-far : percentage_in z ≡ false
  percentage-far = lt-leb (nat_abs z) 1000000 (omega arith)

  angle-far : angle_in z ≡ false
  angle-far = rw (lt-leb (nat_abs z) 3600000 (omega arith))

module _ (z : ℤ) where
  pub length_cut : length_in (cut z) ≡ length_in z
  length_cut = test-cut length_in length-far z

  pub radius-cut : radius_in (cut z) ≡ radius_in z
  radius-cut = test-cut radius_in radius-far z

  pub percentage-cut : percentage_in (cut z) ≡ percentage_in z
  percentage-cut = test-cut percentage_in percentage-far z

  pub angle-cut : angle_in (cut z) ≡ angle_in z
  angle-cut = test-cut angle_in angle-far z

  pub length-kept : length_in z ≡ true → cut z ≡ z
  length-kept = test-kept length_in length-far z

  pub radius-kept : radius_in z ≡ true → cut z ≡ z
  radius-kept = test-kept radius_in radius-far z

  pub percentage-kept : percentage_in z ≡ true → cut z ≡ z
  percentage-kept = test-kept percentage_in percentage-far z

  pub angle-kept : angle_in z ≡ true → cut z ≡ z
  angle-kept = test-kept angle_in angle-far z

-- the unit does not depend on the cut: only 0 is cut to 0
pub unit-cut : (n : ℕ) (l : List ℕ) → unit_of (up_to n) l ≡ unit_of n l
unfolding unit_of
unit-cut n l = rw (zero-cut (dec_le n 0))
  where
    zero-cut : Dec (n ≤ 0) → eqb (up_to n) 0 ≡ eqb n 0
    zero-cut (yes h) = eq-eqb (up_to n) 0 (omega arith) ∙ sym (eq-eqb n 0 (omega arith))
    zero-cut (no f) = ne_eqb (up_to n) 0 (λ e. omega arith) ∙ sym (ne_eqb n 0 (λ e. omega arith))
