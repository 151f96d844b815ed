-- The bridge from the gradient line's formulas over the integers to the counts that the code computes.
-- Assumes nothing.
use mathlib.Core.Path.{◌≡◌, sym, ap, ◌∙◌}
use mathlib.Core.Bool.{Bool, true, false}
use Prim.Native.Nat.{ℕ, zero, suc, ◌+◌, ◌*◌, ◌≤◌, ◌<◌}
use native.Mathlib.Nat.{mul-le-mul, mul-le-mul_right}
use native.Mathlib.Omega.{arith}
use lib.IntN.{ℤ, pos, ◌+ℤ◌, ◌-ℤ◌, ◌*ℤ◌, neg_ℤ, nat_abs, sub_ℕ, +ℤ_assoc, +ℤ_comm}
use Rattle.numbers.proofs.Integers.{diff-eq, diff-of, diff-pos, diff-neg, diff-add, diff-mul, mul-neg}
use Rattle.line.specs.Vector.{vector}
use Rattle.line.specs.Location.{norm, along, squared}
use Rattle.line.specs.Represented.{signed, odd_of}
use Rattle.line.proofs.Vectors.{abs-signed}

module _ (s t : Bool) (a b : ℕ) where
  pub norm-is : norm (vector (signed s a) (signed t b)) ≡ a * a + b * b
  unfolding norm
  norm-is = rw (abs-signed s a, abs-signed t b)

-- the norm of a vector, by its sizes
pub norm-small : (x y : ℕ) → x + y ≤ 32767 → x * x + y * y < 1073741824
norm-small x y h = omega (arith, mul-le-mul h h)

-- a vector that is not 0 has a norm that is not
pub norm-some : (a b : ℕ) → 0 < a + b → 0 < a * a + b * b
norm-some zero zero h = h
norm-some zero (suc b) h = omega arith
norm-some (suc a) b h = omega arith

-- one axis: (2i+1−w)x + w|x| is a count
axis : (s : Bool) (w i a : ℕ) → i < w → (pos (2 * i + 1) -ℤ pos w) *ℤ signed s a +ℤ pos (w * a) ≡ pos (odd_of s w i * a)
axis false w i a h =
    let u : ℕ = 2 * i + 1 in
    ap (λ (z : ℤ). z *ℤ pos a +ℤ pos (w * a)) (diff-of u w)
    ∙ ap (λ (z : ℤ). z +ℤ pos (w * a)) (diff-mul u w a)
    ∙ ap (λ (z : ℤ). sub_ℕ (u * a) (w * a) +ℤ z) (diff-pos (w * a))
    ∙ diff-add (u * a) (w * a) (w * a) 0
    ∙ diff-eq (u * a + w * a) (w * a + 0) (u * a) 0 (omega arith)
    ∙ sym (diff-pos (u * a))
axis true w i a h =
    let u : ℕ = 2 * i + 1 in
    let twice : odd_of true w i + u ≡ 2 * w = omega arith in
    ap (λ (z : ℤ). z +ℤ pos (w * a)) (mul-neg (pos u -ℤ pos w) a)
    ∙ ap (λ (z : ℤ). neg_ℤ (z *ℤ pos a) +ℤ pos (w * a)) (diff-of u w)
    ∙ ap (λ (z : ℤ). neg_ℤ z +ℤ pos (w * a)) (diff-mul u w a)
    ∙ ap (λ (z : ℤ). z +ℤ pos (w * a)) (diff-neg (u * a) (w * a))
    ∙ ap (λ (z : ℤ). sub_ℕ (w * a) (u * a) +ℤ z) (diff-pos (w * a))
    ∙ diff-add (w * a) (u * a) (w * a) 0
    ∙ diff-eq (w * a + w * a) (u * a + 0) (odd_of true w i * a) 0 (omega (arith, ap (λ (m : ℕ). m * a) twice))
    ∙ sym (diff-pos (odd_of true w i * a))

regroup : (a b c d : ℤ) → a +ℤ b +ℤ c +ℤ d ≡ (a +ℤ c) +ℤ (b +ℤ d)
regroup a b c d =
    ap (λ (z : ℤ). z +ℤ d) (+ℤ_assoc a b c ∙ ap (λ (z : ℤ). a +ℤ z) (+ℤ_comm b c) ∙ sym (+ℤ_assoc a c b))
    ∙ +ℤ_assoc (a +ℤ c) b d

-- M of a pixel in the box is the count that the code computes
module _ (s t : Bool) (w h a b i j : ℕ) (p : i < w) (q : j < h) where
  pub along-is : along w h (vector (signed s a) (signed t b)) i j ≡ pos (odd_of s w i * a + odd_of t h j * b)
  unfolding along
  along-is =
      let x : ℤ = (pos (2 * i + 1) -ℤ pos w) *ℤ signed s a in
      let y : ℤ = (pos (2 * j + 1) -ℤ pos h) *ℤ signed t b in
      rw (abs-signed s a, abs-signed t b)
      (regroup x y (pos (w * a)) (pos (h * b))
      ∙ ap (λ (z : ℤ). z +ℤ (y +ℤ pos (h * b))) (axis s w i a p)
      ∙ ap (λ (z : ℤ). pos (odd_of s w i * a) +ℤ z) (axis t h j b q))

  pub square-is : squared (nat_abs (pos 32 *ℤ along w h (vector (signed s a) (signed t b)) i j)) ≡ squared (32 * (odd_of s w i * a + odd_of t h j * b))
  square-is = ap (λ (z : ℤ). squared (nat_abs (pos 32 *ℤ z))) along-is

-- twice a pixel's distance from a side is below twice the side
pub odd-below : (s : Bool) (w i : ℕ) → i < w → odd_of s w i < 2 * w
odd-below true w i h = omega arith
odd-below false w i h = omega arith

pub weighted-le : (m a b x y : ℕ) → a ≤ m → b ≤ m → a * x + b * y ≤ m * (x + y)
weighted-le m a b x y p q = omega (arith, mul-le-mul_right x p, mul-le-mul_right y q)
