-- Units and nearest numbers worked out by computation.
-- Assumes nothing.
use Rattle.std.specs.Prelude.{◌≡◌, refl, pos, negsuc}
use Rattle.numbers.specs.Floor.{floor_div, remainder}
use Rattle.numbers.specs.Units.{to_unit, length_units, percentage_units}
use Rattle.numbers.specs.Fraction.{◌⁄◌, nearest}

-- P10 of document 01, as T-03 changes it: 0.01px is 1 unit, −0.01px is −1, 33.333% of 12,800 is 4267
pub p10 : (length_units (pos 10) ≡ pos 1) × (length_units (negsuc 9) ≡ negsuc 0) × (percentage_units (pos 33333) 12800 ≡ pos 4267)
unfolding to_unit floor_div
p10 = (refl, refl, refl)

-- −0.01% of 12,800 is −1; halves go toward plus infinity: 50% of 1 unit is 1, and −50% of it is 0
halves : (percentage_units (negsuc 9) 12800 ≡ negsuc 0) × (percentage_units (pos 50000) 1 ≡ pos 1) × (percentage_units (negsuc 49999) 1 ≡ pos 0)
unfolding to_unit floor_div
halves = (refl, refl, refl)

-- −90 is −4 · 25 + 10
below-zero : (floor_div (negsuc 89) 25 ≡ negsuc 3) × (remainder (negsuc 89) 25 ≡ 10)
unfolding floor_div remainder
below-zero = (refl, refl)

-- 7/2 goes up, 10/3 down, 11/3 up
halves-up : (nearest (7 ⁄ 2) ≡ 4) × (nearest (10 ⁄ 3) ≡ 3) × (nearest (11 ⁄ 3) ≡ 4)
halves-up = (refl, refl, refl)
