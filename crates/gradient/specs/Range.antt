-- Document 01: "Ranges: length −8,192 to 8,192 px, a circle's size 0 to 8,192 px, percentage −1,000 to 1,000, angle −3,600 to 3,600 and a
-- whole number of quarter degrees." All numbers are in thousandths, so a quarter degree is 250.
-- Assumes nothing.
use Rattle.std.specs.Prelude.{Bool, true, ◌&&◌, ◌%◌, eqb, leb, ℤ, nat_abs}
use Rattle.std.specs.Int.Signed.{non_neg}
use Rattle.gradient.specs.declared.Position.{Position}
use Rattle.gradient.specs.declared.Position.TheVariants as P
use Rattle.gradient.specs.declared.Stop.{Stop}
use Rattle.gradient.specs.declared.Direction.{Direction}
use Rattle.gradient.specs.declared.Direction.TheVariants as D
use Rattle.gradient.specs.declared.Size.{Size}
use Rattle.gradient.specs.declared.Size.TheVariants as Z
use Rattle.gradient.specs.declared.Coordinate.{Coordinate}
use Rattle.gradient.specs.declared.Coordinate.TheVariants as C
use Rattle.gradient.specs.declared.Shape.{Shape}
use Rattle.gradient.specs.declared.Shape.TheVariants as Sh

abbrev pub length_in : ℤ → Bool
length_in t = leb (nat_abs t) 8192000

abbrev pub radius_in : ℤ → Bool
radius_in t = non_neg t && length_in t

abbrev pub percentage_in : ℤ → Bool
percentage_in p = leb (nat_abs p) 1000000

abbrev pub angle_in : ℤ → Bool
angle_in a = leb (nat_abs a) 3600000 && eqb (nat_abs a % 250) 0

abbrev pub position_in : Position → Bool
position_in P.Auto = true
position_in (P.Length t) = length_in t
position_in (P.Percentage p) = percentage_in p

abbrev pub coordinate_in : Coordinate → Bool
coordinate_in (C.Length t) = length_in t
coordinate_in (C.Percentage p) = percentage_in p

abbrev pub direction_in : Direction → Bool
direction_in (D.Side s) = true
direction_in (D.Corner v h) = true
direction_in (D.Angle a) = angle_in a

abbrev pub size_in : Size → Bool
size_in (Z.Extent e) = true
size_in (Z.Length t) = radius_in t

unfoldable pub shape_in : Shape → Bool
shape_in (Sh.Linear d) = direction_in d
shape_in (Sh.Circle s x y) = size_in s && (coordinate_in x && coordinate_in y)

abbrev pub stop_in : Stop → Bool
stop_in s = position_in s.position
