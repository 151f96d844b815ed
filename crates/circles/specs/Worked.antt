-- Positions and circles worked out by computation.
-- Assumes nothing.
use Rattle.std.specs.Prelude.{◌≡◌, refl, [], ℕ, pos}
use Prim.Native.String.{String}
use Rattle.text.specs.Text.{bytes, peek_of, rest_of, run, past, Read, got, is_space, gap_of, lower, keyword_of}
use Rattle.tokens.specs.Number.{is_digit, decimal, is_negative, after_sign, thousandths, fraction_of, magnitude_of, unit_of, number_of, exact}
use Rattle.gradient.specs.declared.Extent.TheVariants as E
use Rattle.gradient.specs.declared.Size.TheVariants as Z
use Rattle.gradient.specs.declared.Coordinate.{Coordinate}
use Rattle.gradient.specs.declared.Coordinate.TheVariants as C
use Rattle.gradient.specs.declared.Shape.{Shape}
use Rattle.gradient.specs.declared.Shape.TheVariants as Sh
use Rattle.directions.specs.Direction.{horizontal_of, vertical_of}
use Rattle.circles.specs.declared.Place.{Place}
use Rattle.circles.specs.Position.{coordinate_of, part_of, percent, middle, place, second_of, position_of}
use Rattle.circles.specs.Circle.{extent_of, length_of, size_of, circle_first, size_first, circle_of, at_of, radial_of}

abbrev position : String → Read Place
position t = position_of exact (bytes t)

abbrev radial : String → Read Shape
radial t = radial_of exact (bytes t)

abbrev px : ℕ → Coordinate
px n = C.Length (pos n)

-- keywords in either order; a length before a keyword is horizontal; `center` alone
parts :
    (position "center left" ≡ got (place (percent 0) middle) [])
    × (position "top center" ≡ got (place middle (percent 0)) [])
    × (position "20px top" ≡ got (place (px 20000) (percent 0)) [])
    × (position "center" ≡ got (place middle middle) [])
unfolding position_of second_of part_of coordinate_of horizontal_of vertical_of keyword_of gap_of is_space number_of after_sign is_negative magnitude_of fraction_of thousandths decimal is_digit unit_of run past lower peek_of rest_of
parts = (refl, refl, refl, refl)

-- a vertical keyword before a length, and a horizontal one after it: the second part is left over
left_over :
    (position "top 20px" ≡ got (place middle (percent 0)) (bytes " 20px"))
    × (position "20px left" ≡ got (place (px 20000) middle) (bytes " left"))
unfolding position_of second_of part_of coordinate_of horizontal_of vertical_of keyword_of gap_of is_space number_of after_sign is_negative magnitude_of fraction_of thousandths decimal is_digit unit_of run past lower peek_of rest_of
left_over = (refl, refl)

circles :
    (radial "circle" ≡ got (Sh.Circle (Z.Extent E.FarthestCorner) middle middle) [])
    × (radial "40px circle at left" ≡ got (Sh.Circle (Z.Length (pos 40000)) (percent 0) middle) [])
    × (radial "circle closest-side at 10px 20%" ≡ got (Sh.Circle (Z.Extent E.ClosestSide) (px 10000) (percent 20000)) [])
unfolding radial_of circle_of circle_first size_first size_of length_of extent_of at_of position_of second_of part_of coordinate_of horizontal_of vertical_of keyword_of gap_of is_space number_of after_sign is_negative magnitude_of fraction_of thousandths decimal is_digit unit_of run past lower peek_of rest_of
circles = (refl, refl, refl)
