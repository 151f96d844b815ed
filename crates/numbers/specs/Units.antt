-- Lengths and percentages in units of the grid. Document 01: "One unit is 1/64 px." Document 02, T-03: "lengths, percentages and the spacing
-- of unplaced stops go to the nearest unit, halves toward plus infinity".
-- Assumes nothing.
use Rattle.std.specs.Prelude.{◌≡◌, true, ℕ, ◌*◌, ◌≤◌, ℤ, pos, nat_abs, ◌+ℤ◌, ◌-ℤ◌, ◌*ℤ◌}
use Rattle.std.specs.Int.Signed.{le_z}
use Rattle.numbers.specs.Floor.{floor_div}
use Rattle.numbers.specs.Fraction.{◌⁄◌, nearest}

-- q is the unit nearest to z / d units: off by at most a half, and not below z / d where it is off by a half
pub record IsNearest (z : ℤ) (d : ℕ) (q : ℤ) : Type 0 where
  pub half : 2 * nat_abs (q *ℤ pos d -ℤ z) ≤ d
  pub up : 2 * nat_abs (q *ℤ pos d -ℤ z) ≡ d → le_z z (q *ℤ pos d) ≡ true

-- The unit that `IsNearest` describes, in a form that computes: z / d + 1/2, taken down. It is the one rounding of the grid, which lengths,
-- percentages and the spacing of stops name. For d above 0 the law `unit-is` shows that it is nearest, and `unit-unique` that no other
-- unit is.
unfoldable pub to_unit : ℤ → ℕ → ℤ
to_unit z d = floor_div (z *ℤ pos 2 +ℤ pos d) (2 * d)

-- the same of a number from 0 up, as the code computes it
unfoldable pub rounded : ℕ → ℕ → ℕ
rounded n d = nearest (n ⁄ d)

-- a length of t thousandths of a px
abbrev pub length_units : ℤ → ℤ
length_units t = to_unit (t *ℤ pos 64) 1000

-- p thousandths of a percent of a whole number of units
abbrev pub percentage_units : ℤ → ℕ → ℤ
percentage_units p whole = to_unit (p *ℤ pos whole) 100000

-- the most units that a percentage is taken of in code; no line is longer
abbrev pub most_whole : ℕ
most_whole = 3000000
