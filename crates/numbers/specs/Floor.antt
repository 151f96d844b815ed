-- Division of a number of either sign by a number d above 0. The law `floor-is` says what the two are: z is d times the quotient and the
-- remainder, and the remainder is from 0 up to but not including d.
-- Assumes nothing.
use Rattle.std.specs.Prelude.{ℕ, ◌-◌, ◌/◌, ◌%◌, ℤ, pos, negsuc}

-- z / d, down to the greatest whole number not above it (toward minus infinity)
unfoldable pub floor_div : ℤ → ℕ → ℤ
floor_div (pos n) d = pos (n / d)
floor_div (negsuc n) d = negsuc (n / d)

unfoldable pub remainder : ℤ → ℕ → ℕ
remainder (pos n) d = n % d
remainder (negsuc n) d = d - 1 - n % d
