-- How far the bytes of a pixel may be from the exact color: the user's demand 3, as document 01 reads it in "The colour of a location", whose
-- sentences are quoted. s is the pixel's location.
-- Assumes nothing.
use Rattle.std.specs.Prelude.{◌≡◌, true, false, List, ℕ, ◌≤◌, ◌<◌, min, max, ℤ, pos, ◌+ℤ◌}
use Rattle.numbers.specs.Fraction.{Fraction, ◌⁄◌, ◌+ᶠ◌, ◌≤ᶠ◌, ◌<ᶠ◌, off}
use Rattle.color.specs.Stop.{Channel, alpha, Stop, Around, single, pair, Location, whole, at_or_below, around}
use Rattle.color.specs.Byte.{units, exact, stop_byte}

-- "every fraction t from s up to but not including s+1": s is at or below t, and s + 1 is not
pub record Within (s : ℤ) (t : Location) : Type 0 where
  pub fraction : 0 < t.den
  pub from : at_or_below t s ≡ true
  pub below : at_or_below t (s +ℤ pos 1) ≡ false

-- Demand 3: "Between two stops that lie g sixty-fourths of a pixel apart, the byte is off by less than 1/2 + 255/g [..] Before the first stop
-- and from the last one on it is off by at most 1/2." "g is B−A. A byte is off by its difference from this, sign dropped."
abbrev pub Near : Around → ℕ → Fraction → Type 0
Near (single a) byte x = off byte x ≤ᶠ 1 ⁄ 2
Near (pair a b) byte x = off byte x <ᶠ 1 ⁄ 2 +ᶠ 255 ⁄ units a.position b.position

-- the least and the greatest byte of the stops around
abbrev pub least : Channel → Around → ℕ
least c (single a) = stop_byte c a
least c (pair a b) = min (stop_byte c a) (stop_byte c b)

abbrev pub greatest : Channel → Around → ℕ
greatest c (single a) = stop_byte c a
greatest c (pair a b) = max (stop_byte c a) (stop_byte c b)

-- what demand 3 says of a pixel's four bytes at a t
pub record Accurate (stops : List Stop) (s : ℤ) (t : Location) (byte : Channel → ℕ) : Type 0 where
  -- the exact color at t is a fraction: what is below its line is not 0, so that g is not 0 either
  pub defined : (c : Channel) → 0 < (exact c stops t).den
  -- "A and B found by t"
  pub near : (c : Channel) → Near (around stops t) (byte c) (exact c stops t)
  -- "The byte lies between the bytes of the stops around it." "The stops around a pixel are the one or two that the rule takes at s. [..]
  -- between takes in both ends."
  pub from-least : (c : Channel) → least c (around stops (whole s)) ≤ byte c
  pub to-greatest : (c : Channel) → byte c ≤ greatest c (around stops (whole s))
  -- "Red, green and blue never exceed alpha."
  pub within-alpha : (c : Channel) → byte c ≤ byte alpha
  -- the stops that the rule takes at t are those that it takes at s
  pub same-stops : around stops t ≡ around stops (whole s)
