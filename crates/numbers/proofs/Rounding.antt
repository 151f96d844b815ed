-- The laws of the rounding of the grid. Nothing else opens `to_unit` or `rounded`, worked figures excepted.
-- Assumes nothing.
use mathlib.Core.Path.{◌≡◌, sym, ap, ◌∙◌, subst}
use Prim.Native.Nat.{ℕ, ◌+◌, ◌*◌, ◌-◌, ◌/◌, ◌%◌, ◌≤◌, ◌<◌}
use native.Mathlib.Nat.{mul-le-mul_left, mul-le-mul_right, le_antisymm, div-add-mod', mod-lt}
use native.Mathlib.Decide.{dec_le}
use native.Mathlib.Omega.{arith}
use lib.Arith.{digits_div}
use lib.Dec.{leb}
use lib.IntN.{ℤ, pos, nat_abs, sub_ℕ, ◌+ℤ◌, ◌-ℤ◌, ◌*ℤ◌}
use lib.Signed.{le_z}
use borrow.Author.Tests.{leb-true, le-leb}
use Rattle.numbers.specs.Units.{IsNearest, to_unit, rounded}
use Rattle.numbers.specs.Floor.{floor_div}
use Rattle.numbers.specs.Fraction.{◌⁄◌, distance}
use Rattle.numbers.proofs.Integers.{diff-pos, diff-add, diff-sub, diff-mul, diff-abs, biased-is, biased-order}
use Rattle.numbers.proofs.Floors.{floor-at}
use Rattle.numbers.proofs.Nearest.{nearest-half, nearest-high, nearest-mono}

-- (a − b) / d units, computed without a sign: with c added to both, b becomes k times the divisor
pub unit-at : (a b c k d : ℕ) → 0 < d → b + c ≡ k * d → to_unit (sub_ℕ a b) d ≡ sub_ℕ (rounded (a + c) d) k
unfolding to_unit rounded
unit-at a b c k d p e =
    ap (λ (z : ℤ). floor_div (z +ℤ pos d) (2 * d)) (diff-mul a b 2)
    ∙ ap (λ (z : ℤ). floor_div (sub_ℕ (a * 2) (b * 2) +ℤ z) (2 * d)) (diff-pos d)
    ∙ ap (λ (z : ℤ). floor_div z (2 * d)) (diff-add (a * 2) (b * 2) d 0)
    ∙ floor-at (a * 2 + d) (b * 2 + 0) (c * 2) k (2 * d) (omega arith) (omega (arith, ap (λ (n : ℕ). n * 2) e))
    ∙ ap (λ (n : ℕ). sub_ℕ (n / (2 * d)) k) (omega arith)

-- a larger number is not rounded to a smaller one
pub rounded-mono : (x y d : ℕ) → 0 < d → x ≤ y → rounded x d ≤ rounded y d
unfolding rounded
rounded-mono x y d p l = nearest-mono (x ⁄ d) (y ⁄ d) p p (mul-le-mul_right d l)

-- the whole part of n / d stays where what is left is below a half, and else is raised by one
module _ (n d : ℕ) (p : 0 < d) where
  by_parts : (q r : ℕ) → 2 * n + d ≡ q * (2 * d) + r → r < 2 * d → rounded n d ≡ q
  unfolding rounded
  by_parts q r e h = ap (λ (x : ℕ). x / (2 * d)) e ∙ digits_div q h

  pub rounded-stays : 2 * (n % d) < d → rounded n d ≡ n / d
  rounded-stays h = by_parts (n / d) (2 * (n % d) + d) (omega (arith, div-add-mod' n d)) (omega arith)

  pub rounded-rises : d ≤ 2 * (n % d) → rounded n d ≡ n / d + 1
  rounded-rises h = by_parts (n / d + 1) (2 * (n % d) - d) (omega (arith, div-add-mod' n d)) (omega (arith, mod-lt n p))

-- a whole number of units stays
pub rounded-exact : (n d : ℕ) → 0 < d → rounded (n * d) d ≡ n
rounded-exact n d p = by_parts (n * d) d p n d (omega arith) (omega arith)

-- no number is rounded by more than a half, and by a half only up
pub rounded-near : (n d : ℕ) → 0 < d → (2 * distance (rounded n d * d) n ≤ d) × (2 * n < 2 * (rounded n d * d) + d)
unfolding rounded
rounded-near n d p = (omega (arith, nearest-half n d p), omega (arith, nearest-high n d p))

-- ---- `to_unit` gives the nearest unit, and no other is: with one offset, z is u − k · d and a unit a − k
module _ (a u k d : ℕ) where
  off_at : nat_abs (sub_ℕ a k *ℤ pos d -ℤ sub_ℕ u (k * d)) ≡ distance (a * d) u
  off_at =
      ap (λ (z : ℤ). nat_abs (z -ℤ sub_ℕ u (k * d))) (diff-mul a k d)
      ∙ ap nat_abs (diff-sub (a * d) (k * d) u (k * d))
      ∙ diff-abs (a * d + k * d) (k * d + u)
      ∙ omega arith

  order-at : le_z (sub_ℕ u (k * d)) (sub_ℕ a k *ℤ pos d) ≡ leb u (a * d)
  order-at = ap (λ (z : ℤ). le_z (sub_ℕ u (k * d)) z) (diff-mul a k d) ∙ biased-order u (a * d) (k * d)

  near-is : 2 * distance (a * d) u ≤ d → 2 * u < 2 * (a * d) + d → IsNearest (sub_ℕ u (k * d)) d (sub_ℕ a k)
  near-is h l = record {
    half = omega (arith, off_at, h);
    up = λ e. order-at ∙ le-leb u (a * d) (omega (arith, off_at, e));
  }

  is-near : 0 < d → IsNearest (sub_ℕ u (k * d)) d (sub_ℕ a k) → (2 * (a * d) ≤ 2 * u + d) × (2 * u < 2 * (a * d) + d)
  is-near p n = (omega (arith, off_at, n.half), either (dec_le d (2 * distance (a * d) u)))
    where
      either : Dec (d ≤ 2 * distance (a * d) u) → 2 * u < 2 * (a * d) + d
      either (yes h) =
          let e = n.up (omega (arith, off_at, n.half)) in
          omega (arith, leb-true u (a * d) (sym order-at ∙ e))
      either (no f) = omega arith

pub unit-is : (z : ℤ) (d : ℕ) → 0 < d → IsNearest z d (to_unit z d)
unit-is z d p =
    let k : ℕ = nat_abs z in
    let u : ℕ = nat_abs (z +ℤ pos (k * d)) in
    let n = rounded-near (u + 0) d p in
    subst (λ (z : ℤ). IsNearest z d (to_unit z d)) (biased-is z (k * d) (omega (arith, mul-le-mul_left k p)))
    (rw (unit-at u (k * d) 0 k d p (omega arith)) (near-is (rounded (u + 0) d) u k d (omega arith) (omega arith)))

count-le : (a b u d : ℕ) → 2 * (a * d) ≤ 2 * u + d → 2 * u < 2 * (b * d) + d → a ≤ b
count-le a b u d low high = either (dec_le a b)
  where
    either : Dec (a ≤ b) → a ≤ b
    either (yes h) = h
    either (no f) =
        let above : b + 1 ≤ a = omega arith in
        omega (arith, mul-le-mul_right d above)

pub unit-unique : (z : ℤ) (d : ℕ) (q r : ℤ) → 0 < d → IsNearest z d q → IsNearest z d r → q ≡ r
unit-unique z d q r p x y =
    let k : ℕ = nat_abs z + nat_abs q + nat_abs r in
    let a : ℕ = nat_abs (q +ℤ pos k) in
    let b : ℕ = nat_abs (r +ℤ pos k) in
    let u : ℕ = nat_abs (z +ℤ pos (k * d)) in
    let eq : sub_ℕ a k ≡ q = biased-is q k (omega arith) in
    let er : sub_ℕ b k ≡ r = biased-is r k (omega arith) in
    let ez : sub_ℕ u (k * d) ≡ z = biased-is z (k * d) (omega (arith, mul-le-mul_left k p)) in
    let near-a = is-near a u k d p (rw (eq, ez) x) in
    let near-b = is-near b u k d p (rw (er, ez) y) in
    sym eq ∙ ap (λ (n : ℕ). sub_ℕ n k) (le_antisymm (count-le a b u d near-a.0 near-b.1) (count-le b a u d near-b.0 near-a.1)) ∙ er
