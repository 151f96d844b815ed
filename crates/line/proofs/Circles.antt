-- Distances from a biased center, and the least and the greatest of sums of squares.
-- Assumes nothing.
use mathlib.Core.Path.{◌≡◌, sym, ap, ◌∙◌}
use Prim.Native.Nat.{ℕ, ◌+◌, ◌*◌, ◌≤◌, ◌<◌, min, max}
use native.Mathlib.Nat.{mul-le-mul}
use native.Mathlib.Decide.{dec_le}
use native.Mathlib.Omega.{arith}
use lib.IntN.{ℤ, pos, nat_abs, ◌-ℤ◌}
use Rattle.numbers.specs.Biased.{bias, unbiased}
use Rattle.numbers.specs.Fraction.{distance}
use Rattle.numbers.proofs.Integers.{diff-of, diff-pos, diff-sub, diff-eq, diff-abs}
use Rattle.line.specs.declared.Choice.{Choice}
use Rattle.line.specs.declared.Choice.TheVariants as Ch
use Rattle.line.specs.Circle.{from}
use Rattle.line.specs.Represented.{chosen}

-- the distance of a biased coordinate from m units
pub from-biased : (c m : ℕ) → nat_abs (pos (m + bias) -ℤ pos c) ≡ from (unbiased c) m
from-biased c m =
    ap nat_abs
    (diff-of (m + bias) c
    ∙ diff-eq (m + bias) c (m + bias) (0 + c) (omega arith)
    ∙ sym (ap (λ (z : ℤ). z -ℤ unbiased c) (diff-pos m) ∙ diff-sub m 0 c bias))

pub from-below : (c m : ℕ) → c < 67108864 → m ≤ 131072 → from (unbiased c) m < 67108864
from-below c m h k = rw (← from-biased c m, diff-of (m + bias) c, diff-abs (m + bias) c) (omega arith)

-- a biased number that is not far from 0 is below 2^26
pub biased-below : (c : ℕ) → nat_abs (unbiased c) ≤ 1310720 → c < 67108864
biased-below c h = let k : distance c bias ≤ 1310720 = rw (diff-abs c bias) at h in omega arith

-- the greater or the lesser of two: of their squares, of sums, and below what both are below
module _ (choice : Choice) where
  pub chosen-square : (a b : ℕ) → chosen choice a b * chosen choice a b ≡ chosen choice (a * a) (b * b)
  chosen-square a b = go choice (dec_le a b)
    where
      go : (choice : Choice) → Dec (a ≤ b) → chosen choice a b * chosen choice a b ≡ chosen choice (a * a) (b * b)
      go Ch.Farthest (yes h) = let e : max a b ≡ b = omega arith in rw e (omega (arith, mul-le-mul h h))
      go Ch.Closest (yes h) = let e : min a b ≡ a = omega arith in rw e (omega (arith, mul-le-mul h h))
      go Ch.Farthest (no f) =
          let h : b ≤ a = omega arith in
          let e : max a b ≡ a = omega arith in
          rw e (omega (arith, mul-le-mul h h))
      go Ch.Closest (no f) =
          let h : b ≤ a = omega arith in
          let e : min a b ≡ b = omega arith in
          rw e (omega (arith, mul-le-mul h h))

  pub chosen-sum : (a b c d : ℕ) → chosen choice a b + chosen choice c d ≡ chosen choice (chosen choice (a + c) (b + c)) (chosen choice (a + d) (b + d))
  chosen-sum a b c d = go choice
    where
      go : (choice : Choice) → chosen choice a b + chosen choice c d ≡ chosen choice (chosen choice (a + c) (b + c)) (chosen choice (a + d) (b + d))
      go Ch.Farthest = omega arith
      go Ch.Closest = omega arith

  pub chosen-below : (n a b : ℕ) → a < n → b < n → chosen choice a b < n
  chosen-below n a b p q = go choice
    where
      go : (choice : Choice) → chosen choice a b < n
      go Ch.Farthest = omega arith
      go Ch.Closest = omega arith

-- the squared distance to the chosen corner is that to the chosen edges
pub corner-is : (choice : Choice) (l r t b : ℕ) → chosen choice l r * chosen choice l r + chosen choice t b * chosen choice t b
    ≡ chosen choice (chosen choice (l * l + t * t) (r * r + t * t)) (chosen choice (l * l + b * b) (r * r + b * b))
corner-is choice l r t b = rw (chosen-square choice l r, chosen-square choice t b) (chosen-sum choice (l * l) (r * r) (t * t) (b * b))
