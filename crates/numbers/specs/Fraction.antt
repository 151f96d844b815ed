-- Fractions of whole numbers, compared by multiplying across, and the nearest whole number. A denominator is above 0 wherever one is used.
-- Assumes nothing.
use Rattle.std.specs.Prelude.{ℕ, ◌+◌, ◌-◌, ◌*◌, ◌/◌, ◌≤◌, ◌<◌}

pub record Fraction : Type 0 where
  pub num : ℕ
  pub den : ℕ

infix 80 ◌⁄◌
abbrev pub ◌⁄◌ : ℕ → ℕ → Fraction
n ⁄ d = record { num = n; den = d }

infixl 65 ◌+ᶠ◌
abbrev pub ◌+ᶠ◌ : Fraction → Fraction → Fraction
x +ᶠ y = (x.num * y.den + y.num * x.den) ⁄ (x.den * y.den)

infix 50 ◌≤ᶠ◌ ◌<ᶠ◌
abbrev pub ◌≤ᶠ◌ : Fraction → Fraction → Type 0
x ≤ᶠ y = x.num * y.den ≤ y.num * x.den

abbrev pub ◌<ᶠ◌ : Fraction → Fraction → Type 0
x <ᶠ y = x.num * y.den < y.num * x.den

-- the difference of two whole numbers, sign dropped: one of the two summands is 0
abbrev pub distance : ℕ → ℕ → ℕ
distance a b = (a - b) + (b - a)

-- how far the whole number b is from the fraction x, sign dropped
abbrev pub off : ℕ → Fraction → Fraction
off b x = distance (b * x.den) x.num ⁄ x.den

-- x to the nearest whole number, halves up: the whole part of x + 1/2
abbrev pub nearest : Fraction → ℕ
nearest x = (2 * x.num + x.den) / (2 * x.den)
