-- Texts that document 01 names as outside the grammar, and one that T-01 names. Assumes nothing.
use mathlib.Core.Path.{refl}
use mathlib.Core.Bool.{true}
use mathlib.Core.List.{[], ◌∷◌}
use lib.IntN.{pos}
use Prim.Native.Nat.{ℕ}
use Prim.Native.String.{String}
use Rattle.text.specs.Text.{bytes, peek_of, rest_of, run, past, is_space, gap_of, lower, keyword_of, whole_of}
use Rattle.tokens.specs.Number.{is_digit, decimal, is_negative, after_sign, thousandths, fraction_of, magnitude_of, unit_of, number_of}
use Rattle.tokens.specs.Color.{color_names, row_of, named_of, color_of}
use Rattle.directions.specs.Direction.{horizontal_of, vertical_of, horizontal_first, vertical_first, to_of, angle_of, direction_of}
use Rattle.circles.specs.Position.{coordinate_of, part_of, second_of, position_of}
use Rattle.circles.specs.Circle.{extent_of, length_of, size_of, circle_first, size_first, circle_of, at_of, radial_of}
use Rattle.stoplist.specs.Stops.{stop_position_of, stop_of, items_of, stops_of, two_stops_of}
use Rattle.gradient.specs.declared.Position.TheVariants as P
use Rattle.gradient.specs.declared.Stop.{Stop}
use Rattle.gradient.specs.declared.Side.TheVariants as S
use Rattle.gradient.specs.declared.Direction.TheVariants as D
use Rattle.gradient.specs.declared.Shape.TheVariants as Sh
use Rattle.reader.specs.Written.{Written, written}
use Rattle.reader.specs.Text.{with_stops, linear_of, circular_of, closes_of, body_of, kind_of, function_of}
use Rattle.grammar.specs.Text.{InGrammar}
use Rattle.grammar.proofs.Text.{sound, refused-not}

abbrev Outside : String → Type 0
Outside text = (g : Written) → InGrammar (bytes text) g → ⊥

-- "`linear-gradient(red)`, a trailing comma, and `to left right` get 4"; "`top 20px` and `left right` are not in the grammar"; "empty text included"
pub outside :
    Outside "linear-gradient(red)" × Outside "linear-gradient(red, blue,)" × Outside "linear-gradient(to left right, red, blue)" ×
    Outside "radial-gradient(circle at top 20px, red, blue)" × Outside "radial-gradient(circle at left right, red, blue)" × Outside ""
unfolding function_of kind_of body_of closes_of linear_of circular_of with_stops two_stops_of stops_of items_of stop_of stop_position_of color_of named_of row_of color_names direction_of to_of angle_of horizontal_first vertical_first horizontal_of vertical_of radial_of circle_of circle_first size_first size_of extent_of length_of at_of position_of second_of part_of coordinate_of number_of magnitude_of fraction_of thousandths decimal is_digit is_negative after_sign unit_of whole_of keyword_of gap_of is_space lower peek_of rest_of run past
outside =
    (refused-not _ refl, refused-not _ refl, refused-not _ refl, refused-not _ refl, refused-not _ refl, refused-not _ refl)

-- T-01: "red, white, blue all at 0"
abbrev at_zero : ℕ → ℕ → ℕ → Stop
at_zero r g b = record { color = record { red = r; green = g; blue = b; alpha = 255 }; position = P.Length (pos 0) }

pub repeating-bars :
    InGrammar (bytes "repeating-linear-gradient(red 0, white 0, blue 0)")
    (written (Sh.Linear (D.Side S.Bottom)) true (at_zero 255 0 0 ∷ at_zero 255 255 255 ∷ at_zero 0 0 255 ∷ []))
unfolding function_of kind_of body_of closes_of linear_of circular_of with_stops two_stops_of stops_of items_of stop_of stop_position_of color_of named_of row_of color_names direction_of to_of angle_of horizontal_first vertical_first horizontal_of vertical_of radial_of circle_of circle_first size_first size_of extent_of length_of at_of position_of second_of part_of coordinate_of number_of magnitude_of fraction_of thousandths decimal is_digit is_negative after_sign unit_of whole_of keyword_of gap_of is_space lower peek_of rest_of run past
repeating-bars = sound _ refl
