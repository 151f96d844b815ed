-- The nearest whole number to a fraction: off by at most a half, and never falling where the fraction rises.
-- Assumes nothing.
use Prim.Native.Nat.{ℕ, ◌+◌, ◌*◌, ◌≤◌, ◌<◌}
use native.Mathlib.Nat.{mul-le-mul_right, le_of_mul-le-mul_left, div-mul-le_self, lt-div-mul-add, le-div_iff_mul-le}
use native.Mathlib.Omega.{arith}
use Rattle.numbers.specs.Fraction.{Fraction, ◌⁄◌, ◌≤ᶠ◌, off, nearest}

module _ (n d : ℕ) (h : 0 < d) where
  nearest-low : 2 * (nearest (n ⁄ d) * d) ≤ 2 * n + d
  nearest-low = omega (arith, div-mul-le_self (2 * n + d) (2 * d))

  pub nearest-high : 2 * n + d < 2 * (nearest (n ⁄ d) * d) + 2 * d
  nearest-high = omega (arith, lt-div-mul-add {a = 2 * n + d} {b = 2 * d} (omega arith))

  pub nearest-half : off (nearest (n ⁄ d)) (n ⁄ d) ≤ᶠ 1 ⁄ 2
  nearest-half = omega (arith, nearest-low, nearest-high)

pub nearest-mono : (x y : Fraction) → 0 < x.den → 0 < y.den → x ≤ᶠ y → nearest x ≤ nearest y
nearest-mono x y hx hy h =
    (le-div_iff_mul-le {k = 2 * y.den} (omega arith)).1
    (le_of_mul-le-mul_left {k = x.den} (omega (arith, mul-le-mul_right y.den (nearest-low x.num x.den hx))) hx)
