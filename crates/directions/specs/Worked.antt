-- Directions worked out by computation.
-- Assumes nothing.
use Rattle.std.specs.Prelude.{◌≡◌, refl, [], pos}
use Prim.Native.String.{String}
use Rattle.text.specs.Text.{bytes, peek_of, rest_of, run, past, Read, got, refused, is_space, gap_of, lower, keyword_of}
use Rattle.tokens.specs.Number.{is_digit, decimal, is_negative, after_sign, thousandths, fraction_of, magnitude_of, unit_of, number_of, exact}
use Rattle.gradient.specs.declared.Side.TheVariants as S
use Rattle.gradient.specs.declared.Vertical.TheVariants as Ver
use Rattle.gradient.specs.declared.Horizontal.TheVariants as Hor
use Rattle.gradient.specs.declared.Direction.{Direction}
use Rattle.gradient.specs.declared.Direction.TheVariants as D
use Rattle.directions.specs.Direction.{horizontal_of, vertical_of, horizontal_first, vertical_first, to_of, angle_of, direction_of}

abbrev direction : String → Read Direction
direction t = direction_of exact (bytes t)

-- a side; a corner in either order of its words, in either case; two horizontal words, of which the second is left over
words :
    (direction "to left" ≡ got (D.Side S.Left) [])
    × (direction "TO Top  Left" ≡ got (D.Corner Ver.Top Hor.Left) [])
    × (direction "to left top" ≡ got (D.Corner Ver.Top Hor.Left) [])
    × (direction "to left right" ≡ got (D.Side S.Left) (bytes " right"))
unfolding direction_of to_of horizontal_first vertical_first horizontal_of vertical_of keyword_of gap_of is_space past lower peek_of rest_of
words = (refl, refl, refl, refl)

-- an angle; a bare 0 is a length and no angle
angles : (direction "450deg" ≡ got (D.Angle (pos 450000)) []) × (direction "0" ≡ refused)
unfolding direction_of to_of angle_of keyword_of number_of after_sign is_negative magnitude_of fraction_of thousandths decimal is_digit unit_of run past lower peek_of rest_of
angles = (refl, refl)
