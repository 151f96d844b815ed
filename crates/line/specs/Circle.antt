-- Circles, in units of 1/64 px: the center, the radius that a size says, and the location of a pixel, in a box of w by h pixels.
-- Assumes nothing.
use Rattle.std.specs.Prelude.{ℕ, ◌+◌, ◌*◌, min, max, ℤ, pos, nat_abs, ◌-ℤ◌}
use Rattle.numbers.specs.Units.{length_units, percentage_units}
use Rattle.root.specs.Root.{root_of}
use Rattle.gradient.specs.declared.Coordinate.{Coordinate}
use Rattle.gradient.specs.declared.Coordinate.TheVariants as C
use Rattle.gradient.specs.declared.Extent.TheVariants as E
use Rattle.gradient.specs.declared.Size.{Size}
use Rattle.gradient.specs.declared.Size.TheVariants as Z
use Rattle.line.specs.Location.{Rule, squared}

pub record Center : Type 0 where
  pub x : ℤ
  pub y : ℤ

-- "the centre is on the grid (percentages of 64·W and 64·H)"
abbrev pub coordinate_units : Coordinate → ℕ → ℤ
coordinate_units (C.Length t) pixels = length_units t
coordinate_units (C.Percentage p) pixels = percentage_units p (64 * pixels)

abbrev pub center_of : Coordinate → Coordinate → ℕ → ℕ → Center
center_of x y w h = record { x = coordinate_units x w; y = coordinate_units y h }

-- how far the coordinate c is from m units, sign dropped
abbrev pub from : ℤ → ℕ → ℕ
from c m = nat_abs (pos m -ℤ c)

-- the least (with `min`) or the greatest (with `max`) "of the four distances to the edges' lines, sign dropped"
abbrev pub of_sides : (ℕ → ℕ → ℕ) → ℕ → ℕ → Center → ℕ
of_sides best w h c = best (best (from c.x 0) (from c.x (64 * w))) (best (from c.y 0) (from c.y (64 * h)))

-- the least or the greatest "squared distance to a corner"
abbrev pub to_corner : Center → ℕ → ℕ → ℕ
to_corner c m n = squared (from c.x m) + squared (from c.y n)

abbrev pub of_corners : (ℕ → ℕ → ℕ) → ℕ → ℕ → Center → ℕ
of_corners best w h c =
    best (best (to_corner c 0 0) (to_corner c (64 * w) 0)) (best (to_corner c 0 (64 * h)) (to_corner c (64 * w) (64 * h)))

-- the radius, which is the line length; for corners "the greatest q whose square is at most" that
unfoldable pub radius_of : Size → ℕ → ℕ → Center → ℕ
radius_of (Z.Extent E.ClosestSide) w h c = of_sides min w h c
radius_of (Z.Extent E.FarthestSide) w h c = of_sides max w h c
radius_of (Z.Extent E.ClosestCorner) w h c = root_of 1 (of_corners min w h c)
radius_of (Z.Extent E.FarthestCorner) w h c = root_of 1 (of_corners max w h c)
radius_of (Z.Length t) w h c = nat_abs (length_units t)

-- "A pixel's location is the greatest q with q² ≤ dx² + dy², measured from its centre (64i+32, 64j+32)"
abbrev pub circle_rule : Center → Rule
circle_rule c = record { scale = 1; square = λ i j. to_corner c (64 * i + 32) (64 * j + 32) }
