-- What follows from the laws of rounding: ranges of what is rounded, and of lengths and percentages in units.
-- Assumes nothing.
use mathlib.Core.Path.{◌≡◌, refl, sym, ap, ◌∙◌}
use Prim.Native.Nat.{ℕ, ◌+◌, ◌*◌, ◌-◌, ◌≤◌, ◌<◌}
use native.Mathlib.Nat.{mul-le-mul_right}
use native.Mathlib.Omega.{arith}
use lib.IntN.{ℤ, pos, ◌+ℤ◌, ◌*ℤ◌, sub_ℕ, nat_abs}
use Rattle.numbers.specs.Biased.{bias, unbiased, biased}
use Rattle.numbers.specs.Fraction.{distance}
use Rattle.numbers.specs.Units.{to_unit, rounded, length_units, percentage_units, most_whole}
use Rattle.numbers.proofs.Integers.{diff-abs, diff-eq, diff-mul, biased-is, biased-near}
use Rattle.numbers.proofs.Rounding.{unit-at, rounded-mono, rounded-exact}

pub rounded-high : (x n d : ℕ) → 0 < d → x ≤ n * d → rounded x d ≤ n
rounded-high x n d p h = omega (arith, rounded-mono x (n * d) d p h, rounded-exact n d p)

pub rounded-low : (x n d : ℕ) → 0 < d → n * d ≤ x → n ≤ rounded x d
rounded-low x n d p h = omega (arith, rounded-mono (n * d) x d p h, rounded-exact n d p)

-- a number times n in units, from its biased form
unit-biased : (z : ℤ) (n c k d : ℕ) → nat_abs z ≤ bias → 0 < d → bias * n + c ≡ k * d → to_unit (z *ℤ pos n) d ≡ sub_ℕ (rounded (biased z * n + c) d) k
unit-biased z n c k d h p e =
    ap (λ (x : ℤ). to_unit (x *ℤ pos n) d) (sym (biased-is z bias h))
    ∙ ap (λ (x : ℤ). to_unit x d) (diff-mul (biased z) bias n)
    ∙ unit-at (biased z * n) (bias * n) c k d p e

-- a length in units: 2^25 · 64 + 352 is 2,147,484 · 1000
module _ (t : ℤ) (h : nat_abs t ≤ 8192000) where
  pub length_high : rounded (biased t * 64 + 352) 1000 ≤ 2671773
  length_high =
      let near : distance (biased t) bias ≡ nat_abs t = biased-near t bias (omega arith) in
      rounded-high (biased t * 64 + 352) 2671773 1000 (omega arith) (omega arith)

  pub length-is : unbiased (rounded (biased t * 64 + 352) 1000 + 31406948) ≡ length_units t
  length-is =
      let n : ℕ = rounded (biased t * 64 + 352) 1000 in
      diff-eq (n + 31406948) bias n 2147484 (omega arith) ∙ sym (unit-biased t 64 352 2147484 1000 (omega arith) (omega arith) refl)

-- a percentage in units: 2^25 + 45,568 is 336 · 100,000
module _ (p : ℤ) (w : ℕ) (h : nat_abs p ≤ 1000000) where
  pub percentage-product : (32600000 * w ≤ (biased p + 45568) * w) × ((biased p + 45568) * w ≤ 34600000 * w)
  percentage-product =
      let near : distance (biased p) bias ≡ nat_abs p = biased-near p bias (omega arith) in
      (mul-le-mul_right w (omega arith), mul-le-mul_right w (omega arith))

  pub percentage-range : (326 * w ≤ rounded ((biased p + 45568) * w) 100000) × (rounded ((biased p + 45568) * w) 100000 ≤ 346 * w)
  percentage-range =
      let r = percentage-product in
      let x : ℕ = (biased p + 45568) * w in
      (rounded-low x (326 * w) 100000 (omega arith) (omega arith), rounded-high x (346 * w) 100000 (omega arith) (omega arith))

  pub percentage-is : w ≤ most_whole → unbiased (rounded ((biased p + 45568) * w) 100000 + bias - 336 * w) ≡ percentage_units p w
  percentage-is m =
      let n : ℕ = rounded ((biased p + 45568) * w) 100000 in
      let r = percentage-range in
      diff-eq (n + bias - 336 * w) bias n (336 * w) (omega arith)
      ∙ ap (λ (x : ℕ). sub_ℕ (rounded x 100000) (336 * w)) (omega arith)
      ∙ sym (unit-biased p w (45568 * w) (336 * w) 100000 (omega arith) (omega arith) (omega arith))

-- nothing is rounded further from 0 than n where it is not further than n itself
pub unit-bound : (z : ℤ) (n d : ℕ) → 0 < d → nat_abs z ≤ n * d → nat_abs (to_unit z d) ≤ n
unit-bound z n d p h =
    let u : ℕ = nat_abs (z +ℤ pos (n * d)) in
    let k : distance u (n * d) ≤ n * d = rw (biased-near z (n * d) h) h in
    let r : rounded (u + 0) d ≤ n + n = rounded-high (u + 0) (n + n) d p (omega arith) in
    rw (ap (λ (x : ℤ). to_unit x d) (sym (biased-is z (n * d) h)) ∙ unit-at u (n * d) 0 n d p (omega arith), diff-abs (rounded (u + 0) d) n) (omega arith)

abs-mul : (z : ℤ) (n : ℕ) → nat_abs (z *ℤ pos n) ≤ nat_abs z * n
abs-mul z n =
    let k : ℕ = nat_abs z in
    let u : ℕ = nat_abs (z +ℤ pos k) in
    let near : distance u k ≡ k = biased-near z k (omega arith) in
    rw (ap (λ (x : ℤ). x *ℤ pos n) (sym (biased-is z k (omega arith))) ∙ diff-mul u k n, diff-abs (u * n) (k * n))
    (either u near)
  where
    either : (u : ℕ) → distance u (nat_abs z) ≡ nat_abs z → distance (u * n) (nat_abs z * n) ≤ nat_abs z * n
    either u e =
        let l : u ≤ nat_abs z + nat_abs z = omega arith in
        omega (arith, mul-le-mul_right n l)

-- a length that is in range, and a percentage that is, in units
pub length-bound : (t : ℤ) → nat_abs t ≤ 8192000 → nat_abs (length_units t) ≤ 524288
length-bound t h = unit-bound (t *ℤ pos 64) 524288 1000 (omega arith) (omega (arith, abs-mul t 64))

pub percentage-bound : (p : ℤ) (whole : ℕ) → nat_abs p ≤ 1000000 → nat_abs (percentage_units p whole) ≤ 10 * whole
percentage-bound p whole h = unit-bound (p *ℤ pos whole) (10 * whole) 100000 (omega arith) (omega (arith, abs-mul p whole, mul-le-mul_right whole h))
