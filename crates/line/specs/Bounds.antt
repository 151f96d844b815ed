-- The greatest line length, location and position in units, for any gradient that `check` accepts and any box; biased, all of them fit 32 bits.
-- Everything that draws relies on these.
-- Assumes nothing.
use Rattle.std.specs.Prelude.{◌≡◌, true, ℕ, ◌^◌, ◌≤◌, ◌<◌, ℤ, nat_abs}
use Rattle.numbers.specs.Biased.{biased, unbiased}
use Rattle.numbers.specs.Units.{length_units, percentage_units, most_whole}
use Rattle.gradient.specs.declared.Shape.{Shape}
use Rattle.gradient.specs.Range.{length_in, percentage_in, shape_in}
use Rattle.line.specs.Box.{Box}
use Rattle.line.specs.Location.{location_by}
use Rattle.line.specs.Line.{length_of, rule_of}

-- the farthest corner of the largest box from a center at −1,000% −1,000%: 11 · 2,048 px on each axis, 64 · 22,528 · √2 taken down
abbrev pub longest : ℕ
longest = 2039001

-- 1,000% of that
abbrev pub furthest : ℕ
furthest = 20390010

pub record Bounds : Type 0 where
  pub some-scale : (s : Shape) (w h : ℕ) → Box w h → 0 < (rule_of s w h).scale
  pub length : (s : Shape) (w h : ℕ) → Box w h → shape_in s ≡ true → length_of s w h ≤ longest
  pub location : (s : Shape) (w h i j : ℕ) → Box w h → shape_in s ≡ true → i < w → j < h → location_by (rule_of s w h) i j ≤ longest
  pub length-position : (t : ℤ) → length_in t ≡ true → nat_abs (length_units t) ≤ furthest
  pub percentage-position : (p : ℤ) (line : ℕ) → percentage_in p ≡ true → line ≤ longest → nat_abs (percentage_units p line) ≤ furthest
  pub whole : longest ≤ most_whole
  pub biased : (z : ℤ) → nat_abs z ≤ furthest → (biased z < 2 ^ 32) × (unbiased (biased z) ≡ z)
