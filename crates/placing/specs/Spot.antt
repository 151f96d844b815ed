-- Where a stop stands on the gradient line, in units of 1/64 px.
-- Assumes nothing.
use Rattle.std.specs.Prelude.{ℕ, ℤ}
use Rattle.numbers.specs.Units.{length_units, percentage_units}
use Rattle.gradient.specs.declared.Position.{Position}
use Rattle.gradient.specs.declared.Position.TheVariants as P

-- not placed yet, or placed at a number of units
pub data Spot : Type 0 where
  unplaced : Spot
  at : ℤ → Spot

-- a position in units: the one place where lengths and percentages become units; "percentages are of the line length"
abbrev pub spot_of : ℕ → Position → Spot
spot_of line P.Auto = unplaced
spot_of line (P.Length t) = at (length_units t)
spot_of line (P.Percentage p) = at (percentage_units p line)
