-- The squares of columns and rows: how large they are, how a list of them is filled, and the locations that their sums have as roots.
-- Assumes nothing.
use Rattle.std.proofs.Common.{◌≡◌, ℕ, ◌+◌, ◌*◌, ◌<◌, ◌≤◌, List, length, get_or, set, nat_abs, sym, ap, ◌∙◌, mul-le-mul, arith}
use Rattle.numbers.specs.Biased.{bias, unbiased}
use Rattle.numbers.specs.Fraction.{distance}
use Rattle.numbers.proofs.Integers.{diff-of, diff-abs}
use Rattle.root.specs.Root.{root_of}
use Rattle.line.specs.Location.{location_by, squared}
use Rattle.line.specs.Circle.{from, circle_rule}
use Rattle.line.specs.Represented.{center_in}
use Rattle.line.specs.declared.BiasedCenter.{BiasedCenter}
use Rattle.line.proofs.Circles.{from-biased, from-below}
use Rattle.circleroots.specs.Squares.{square_of, Measured}
use Rattle.circleroots.proofs.Parts.{each_set}

-- how far the biased coordinate is from m, as a natural number
pub from_is : (c m : ℕ) → from (unbiased c) m ≡ distance (m + bias) c
from_is c m = sym (from-biased c m) ∙ ap nat_abs (diff-of (m + bias) c) ∙ diff-abs (m + bias) c

-- rows next to each other are at most 64 units nearer or farther
pub from_next : (c m j : ℕ) → m + 1 ≡ j → (from (unbiased c) (64 * m + 32) ≤ from (unbiased c) (64 * j + 32) + 64) × (from (unbiased c) (64 * j + 32) ≤ from (unbiased c) (64 * m + 32) + 64)
from_next c m j e = rw (from_is c (64 * m + 32), from_is c (64 * j + 32)) (omega arith, omega arith)

-- .. nearer above the center, and farther below it
pub from-toward : (c m j : ℕ) → m + 1 ≡ j → 64 * j + bias < c → from (unbiased c) (64 * j + 32) ≤ from (unbiased c) (64 * m + 32)
from-toward c m j e h = rw (from_is c (64 * m + 32), from_is c (64 * j + 32)) (omega arith)

pub from-away : (c m j : ℕ) → m + 1 ≡ j → c ≤ 64 * j + bias → from (unbiased c) (64 * m + 32) ≤ from (unbiased c) (64 * j + 32)
from-away c m j e h = rw (from_is c (64 * m + 32), from_is c (64 * j + 32)) (omega arith)

pub square-below : (c i : ℕ) → c < 67108864 → i < 2048 → square_of c i < 4503599627370496
square-below c i h k =
    let f : from (unbiased c) (64 * i + 32) ≤ 67108863 = omega (arith, from-below c (64 * i + 32) h (omega arith)) in
    omega (arith, mul-le-mul f f)

-- rows on both sides of the coordinate c, as far from it
pub square-mirrored : (c j m : ℕ) → 33554432 + 32 * (m + j + 1) ≡ c → square_of c j ≡ square_of c m
square-mirrored c j m e =
    let f : from (unbiased c) (64 * j + 32) ≡ from (unbiased c) (64 * m + 32) = rw (from_is c (64 * j + 32), from_is c (64 * m + 32)) (omega arith) in
    ap squared f

-- a list of f's numbers with one number more
pub filled-set : (f : ℕ → ℕ) (i : ℕ) (l : List ℕ) (s : ℕ) → s ≡ f i → i < length l → ((k : ℕ) → k < i → get_or l k 0 ≡ f k) → (k : ℕ) → k < i + 1
    → get_or (set l i s) k 0 ≡ f k
filled-set f i l s e h q k p = each_set (λ (n b : ℕ). b ≡ f n) 0 i l s h (λ n u. q n) e k (omega arith) p

-- ---- pixel (i, j)
module _ (c : BiasedCenter) (i j row d : ℕ) (m : Measured c j row) (p : i < 2048) (e : d ≡ square_of c.x i) where
  pub sum_fits : d + row < 9007199254740992
  sum_fits = omega (arith, m.own, square-below c.x i m.near.x p, square-below c.y j m.near.y m.height)

  pub location-is : root_of 1 (d + row) ≡ location_by (circle_rule (center_in c)) i j
  unfolding location_by
  location-is = rw (e, m.own)
