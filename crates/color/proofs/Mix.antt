-- A mix of two values to the nearest whole: never falling where the values rise, a value mixed with itself, and how far it is off.
-- Assumes nothing.
use mathlib.Core.Path.{◌≡◌, sym, ap, ◌∙◌}
use Prim.Native.Nat.{ℕ, ◌+◌, ◌-◌, ◌*◌, ◌≤◌, ◌<◌}
use native.Mathlib.Nat.{mul-sub, mul-add, mul-le-mul_left, mul-le-mul_right, mul-lt-mul_of_pos_right, le_antisymm}
use native.Mathlib.Omega.{arith}
use Rattle.numbers.specs.Fraction.{◌⁄◌, ◌+ᶠ◌, ◌<ᶠ◌, ◌≤ᶠ◌, distance, off, nearest}
use Rattle.numbers.proofs.Nearest.{nearest-half, nearest-mono}
use Rattle.color.specs.Lent.{mix}

module _ (x y : ℕ) (h : 0 < y) where
  pub mix-mono : (p q p' q' : ℕ) → p ≤ p' → q ≤ q' → nearest (mix p q x y) ≤ nearest (mix p' q' x y)
  mix-mono p q p' q' hp hq =
      nearest-mono (mix p q x y) (mix p' q' x y) (omega arith) (omega arith)
      (mul-le-mul_right (255 * (x + y)) (omega (arith, mul-le-mul_right y hp, mul-le-mul_right x hq)))

  -- the mix of a value with itself is that value
  pub mix-same : (p : ℕ) → nearest (mix p p x y) ≡ nearest (p ⁄ 255)
  mix-same p =
      le_antisymm (nearest-mono (mix p p x y) (p ⁄ 255) (omega arith) (omega arith) (omega arith))
      (nearest-mono (p ⁄ 255) (mix p p x y) (omega arith) (omega arith) (omega arith))

-- the byte of a mix
pub mix-byte : (p q x y : ℕ) → p ≤ 65025 → q ≤ 65025 → 0 < y → nearest (mix p q x y) ≤ 255
mix-byte p q x y hp hq h = omega (arith, mix-mono x y h p q 65025 65025 hp hq, mix-same x y h 65025)

-- ---- how far a mix is off
scaled : (d a b : ℕ) → distance (d * a) (d * b) ≡ d * distance a b
scaled d a b = sym (mul-add d (a - b) (b - a) ∙ rw (mul-sub d a b, mul-sub d b a))

finish : (w g d : ℕ) → 0 < g → 2 * w < d * (255 * g) + 130050 * d → w * (2 * g) < (1 * g + 510) * (255 * g * d)
finish w g d hg h = omega (arith, mul-lt-mul_of_pos_right h hg)

-- at t = s + e/d, where e < d and z + e = y * d: the mix at s, to the nearest whole, is off from the mix at t by less than 1/2 + 255/g
module _ (p q x y z d e : ℕ) (hp : p ≤ 65025) (hq : q ≤ 65025) (hy : 0 < y) (hz : z + e ≡ y * d) (he : e < d) where
  drift : distance (d * (p * y + q * x)) (p * z + q * (x * d + e)) ≤ 65025 * e
  drift = omega (arith, ap (λ (k : ℕ). p * k) hz, mul-le-mul_right e hp, mul-le-mul_right e hq)

  -- twice the distance, times d, with the denominator 255 * (x + y)
  twice : (n : ℕ) → off n (mix p q x y) ≤ᶠ 1 ⁄ 2 → 2 * distance (d * (n * (255 * (x + y)))) (p * z + q * (x * d + e)) < d * (255 * (x + y)) + 130050 * d
  twice n h =
      bound (d * (n * (255 * (x + y)))) (d * (p * y + q * x)) (p * z + q * (x * d + e))
      (rw scaled (omega (arith, mul-le-mul_left d h))) drift
    where
      bound : (a b c : ℕ) → 2 * distance a b ≤ d * (255 * (x + y)) → distance b c ≤ 65025 * e → 2 * distance a c < d * (255 * (x + y)) + 130050 * d
      bound a b c h₁ h₂ = omega arith

  pub mix-off : off (nearest (mix p q x y)) ((p * z + q * (x * d + e)) ⁄ (255 * (x + y) * d)) <ᶠ 1 ⁄ 2 +ᶠ 255 ⁄ (x + y)
  mix-off =
      let n : ℕ = nearest (mix p q x y) in
      let same : d * (n * (255 * (x + y))) ≡ n * (255 * (x + y) * d) = omega arith in
      finish (distance (n * (255 * (x + y) * d)) (p * z + q * (x * d + e))) (x + y) d (omega arith)
      (rw same at (twice n (nearest-half (p * y + q * x) (255 * (x + y)) (omega arith))))
