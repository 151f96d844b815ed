-- Lines, locations and radii worked out by computation.
-- Assumes nothing.
use Rattle.std.specs.Prelude.{◌≡◌, refl, pos, negsuc, neg_ℤ}
use Rattle.numbers.specs.Floor.{floor_div, remainder}
use Rattle.numbers.specs.Units.{to_unit}
use Rattle.root.specs.Root.{root_of, root_in}
use Rattle.sine.specs.Sines.{sine_of, sines}
use Rattle.gradient.specs.declared.Side.TheVariants as S
use Rattle.gradient.specs.declared.Vertical.TheVariants as Ver
use Rattle.gradient.specs.declared.Horizontal.TheVariants as Hor
use Rattle.gradient.specs.declared.Direction.TheVariants as D
use Rattle.gradient.specs.declared.Extent.TheVariants as E
use Rattle.gradient.specs.declared.Size.TheVariants as Z
use Rattle.gradient.specs.declared.Coordinate.TheVariants as C
use Rattle.gradient.specs.declared.Shape.{Shape}
use Rattle.gradient.specs.declared.Shape.TheVariants as Sh
use Rattle.line.specs.Vector.{vector, sine_z, quarters, vector_of}
use Rattle.line.specs.Location.{location_by, norm, line_length, along}
use Rattle.line.specs.Circle.{radius_of}
use Rattle.line.specs.Line.{length_of, rule_of}

-- P3 of document 01: to top right in 3×4, line length 307, pixel (0,3) at 44, pixel (2,0) at 262
abbrev top_right : Shape
top_right = Sh.Linear (D.Corner Ver.Top Hor.Right)

pub p3 : (length_of top_right 3 4 ≡ 307) × (location_by (rule_of top_right 3 4) 0 3 ≡ 44) × (location_by (rule_of top_right 3 4) 2 0 ≡ 262)
unfolding length_of rule_of vector_of line_length location_by along norm root_of root_in
p3 = (refl, refl, refl)

-- a length of 200 px, as document 01's P4 to P8 have it
right : length_of (Sh.Linear (D.Side S.Right)) 200 1 ≡ 12800
unfolding length_of vector_of line_length norm root_of root_in
right = refl

-- closest-corner from 3px 4px in a 20×20 box: radius 320
pub closest : length_of (Sh.Circle (Z.Extent E.ClosestCorner) (C.Length (pos 3000)) (C.Length (pos 4000))) 20 20 ≡ 320
unfolding length_of radius_of to_unit floor_div root_of root_in
closest = refl

-- an angle in each quadrant, with whole turns on both sides: 30deg, 120.25deg, −150deg, 3,540deg
quadrants : (vector_of (D.Angle (pos 30000)) 1 1 ≡ vector (pos 8192) (neg_ℤ (pos 14189)))
    × (vector_of (D.Angle (pos 120250)) 1 1 ≡ vector (pos 14153) (pos 8254))
    × (vector_of (D.Angle (negsuc 149999)) 1 1 ≡ vector (neg_ℤ (pos 8192)) (pos 14189))
    × (vector_of (D.Angle (pos 3540000)) 1 1 ≡ vector (neg_ℤ (pos 14189)) (neg_ℤ (pos 8192)))
unfolding vector_of sine_z quarters remainder sine_of sines
quadrants = (refl, refl, refl, refl)

-- the largest box at 45deg: the diagonal, and the pixel at its far end
abbrev slanted : Shape
slanted = Sh.Linear (D.Angle (pos 45000))

pub largest : (length_of slanted 2048 2048 ≡ 185363) × (location_by (rule_of slanted 2048 2048) 2047 0 ≡ 185318)
unfolding length_of rule_of vector_of sine_z quarters remainder sine_of sines line_length location_by along norm root_of root_in
largest = (refl, refl)

-- the longest line: the bound is reached
pub reached : length_of (Sh.Circle (Z.Extent E.FarthestCorner) (C.Percentage (negsuc 999999)) (C.Percentage (negsuc 999999))) 2048 2048 ≡ 2039001
unfolding length_of radius_of to_unit floor_div root_of root_in
reached = refl
