-- The ten P cases of document 01, P10 as T-03 of document 02 changes it, worked out from the definitions: P1 to P9 from their text, each with
-- the reply 0.
-- Assumes nothing.
use Prim.Native.String.{String}
use Rattle.std.specs.Prelude.{◌≡◌, refl, List, [], ◌∷◌, map, ℕ, ◌*◌, ℤ, pos, negsuc, get_or}
use Rattle.replies.specs.Replies.{done}
use Rattle.replies.specs.Room.{box_in, rows_in, strip_reply}
use Rattle.numbers.specs.Floor.{floor_div, remainder}
use Rattle.numbers.specs.Units.{to_unit, length_units, percentage_units}
use Rattle.root.specs.Root.{root_in, root_of}
use Rattle.gradient.specs.Range.{shape_in}
use Rattle.line.specs.Circle.{radius_of}
use Rattle.line.specs.Line as line
use Rattle.line.specs.Location.{location_by, norm, line_length, along}
use Rattle.line.specs.Vector.{vector_of}
use Rattle.text.specs.Text.{bytes, peek_of, rest_of, past, is_space, gap_of, lower, keyword_of, whole_of}
use Rattle.text.specs.Text as text
use Rattle.tokens.specs.Color.{color_names, row_of, named_of, color_of}
use Rattle.tokens.specs.Number.{is_digit, decimal, is_negative, after_sign, thousandths, fraction_of, magnitude_of, unit_of, number_of}
use Rattle.directions.specs.Direction.{horizontal_of, vertical_of, horizontal_first, vertical_first, to_of, angle_of, direction_of}
use Rattle.circles.specs.Circle.{extent_of, size_of, circle_first, size_first, circle_of, at_of, radial_of}
use Rattle.circles.specs.Circle as circle
use Rattle.circles.specs.Position.{coordinate_of, part_of, second_of}
use Rattle.circles.specs.Position as position
use Rattle.stoplist.specs.Stops.{items_of, two_stops_of}
use Rattle.stoplist.specs.Stops as stops
use Rattle.reader.specs.Text.{with_stops, linear_of, circular_of, closes_of, body_of, kind_of, function_of}
use Rattle.reader.specs.Reading.{read_reply, read_of}
use Rattle.placing.specs.Fixup.{first_at, last_at, raised_from, next, spaced_from}
use Rattle.placing.specs.Fixup as fixup
use Rattle.placing.specs.Placed.{at_positions, placed_stops, placed_in}
use Rattle.color.specs.Stop.{premultiplied, last_place, around}
use Rattle.color.specs.Byte.{mixed}
use Rattle.picture.specs.Picture.{joined, row, strip, picture}
use Rattle.color.specs.Average.{total_length, entries_sum}
use Rattle.color.specs.Paint.{moved_to}
use Rattle.rows.specs.Pixel.{pixel_of}
use Rattle.from_text.specs.Text.{place_text_reply, draw_text_reply, text_rule, text_paint}

-- what the definitions give, and what the case states
record Case : Type 0 where
  given : List ℤ
  stated : List ℤ

infix 30 ◌is◌
abbrev ◌is◌ : List ℤ → List ℤ → Case
a is b = record { given = a; stated = b }

-- the same of a call from text: the reply 0, then what is stated
infix 30 ◌gives◌
abbrev ◌gives◌ : List ℤ → List ℤ → Case
a gives b = a is pos done ∷ b

-- the reply to drawing a text, with just enough bytes for its picture
abbrev drawing_reply : String → ℕ → ℕ → ℤ
drawing_reply t w h = pos (draw_text_reply (bytes t) w h (4 * w * h))

-- that reply, and the picture of the text in a box
abbrev drawn_from : String → ℕ → ℕ → List ℤ
drawn_from t w h = drawing_reply t w h ∷ map pos (picture (pixel_of (text_rule (bytes t) w h) (text_paint (bytes t) w h)) w h)

-- the reply to placing a text, and the positions of its stops on a line of 200 px
abbrev placed_from : String → List ℤ
placed_from t = pos (place_text_reply (bytes t) 200 1) ∷ map (λ s. s.position) (placed_in (read_of (bytes t)).gradient 200 1)

-- the reply to drawing a text, the line length, two locations and two grays
abbrev slanted : String → List ℤ
slanted t =
    drawing_reply t 3 4
    ∷ pos (line.length_of (read_of (bytes t)).gradient.shape 3 4)
    ∷ pos (location_by (text_rule (bytes t) 3 4) 0 3)
    ∷ pos (location_by (text_rule (bytes t) 3 4) 2 0)
    ∷ pos (get_or (pixel_of (text_rule (bytes t) 3 4) (text_paint (bytes t) 3 4) 0 3) 0 0)
    ∷ pos (get_or (pixel_of (text_rule (bytes t) 3 4) (text_paint (bytes t) 3 4) 2 0) 0 0)
    ∷ []

abbrev cases : List Case
cases =
    (drawn_from "linear-gradient(to right, black, white)" 4 1
    gives pos 32 ∷ pos 32 ∷ pos 32 ∷ pos 255 ∷ pos 96 ∷ pos 96 ∷ pos 96 ∷ pos 255 ∷ pos 159 ∷ pos 159 ∷ pos 159 ∷ pos 255 ∷ pos 223 ∷ pos 223 ∷ pos 223 ∷ pos 255 ∷ [])
    ∷ (drawn_from "linear-gradient(to right, red, transparent)" 2 1 gives pos 191 ∷ pos 0 ∷ pos 0 ∷ pos 191 ∷ pos 64 ∷ pos 0 ∷ pos 0 ∷ pos 64 ∷ [])
    ∷ (slanted "linear-gradient(to top right, black, white)" gives pos 307 ∷ pos 44 ∷ pos 262 ∷ pos 37 ∷ pos 218 ∷ [])
    ∷ (placed_from "linear-gradient(to right, red 40%, white, black, blue)" gives pos 5120 ∷ pos 7680 ∷ pos 10240 ∷ pos 12800 ∷ [])
    ∷ (placed_from "linear-gradient(to right, red -50%, white, blue)" gives negsuc 6399 ∷ pos 3200 ∷ pos 12800 ∷ [])
    ∷ (placed_from "linear-gradient(to right, red 20px, white 0px, blue 40px)" gives pos 1280 ∷ pos 1280 ∷ pos 2560 ∷ [])
    ∷ (placed_from "linear-gradient(to right, red, white -50%, black 150%, blue)" gives pos 0 ∷ pos 0 ∷ pos 19200 ∷ pos 19200 ∷ [])
    ∷ (placed_from "linear-gradient(to right, red -50px, white, blue)" gives negsuc 3199 ∷ pos 4800 ∷ pos 12800 ∷ [])
    ∷ (drawn_from "radial-gradient(circle at 0.5px 0.5px, red -50px, yellow 100px)" 1 1 gives pos 255 ∷ pos 85 ∷ pos 0 ∷ pos 255 ∷ [])
    ∷ (length_units (pos 10) ∷ length_units (negsuc 9) ∷ percentage_units (pos 33333) 12800 ∷ [] is pos 1 ∷ negsuc 0 ∷ pos 4267 ∷ [])
    ∷ []

pub p1-p10 : map (λ c. c.given) cases ≡ map (λ c. c.stated) cases
unfolding floor_div to_unit root_in root_of shape_in radius_of line.length_of line.rule_of location_by norm line_length along vector_of peek_of rest_of text.run past is_space gap_of lower keyword_of whole_of color_names row_of named_of color_of is_digit decimal is_negative after_sign thousandths fraction_of magnitude_of unit_of number_of horizontal_of vertical_of horizontal_first vertical_first to_of angle_of direction_of extent_of size_of circle_first size_first circle_of at_of radial_of circle.length_of coordinate_of part_of second_of position.position_of items_of two_stops_of stops.stop_position_of stops.stop_of stops.stops_of with_stops linear_of circular_of closes_of body_of kind_of function_of read_reply read_of box_in rows_in strip_reply place_text_reply first_at last_at raised_from next spaced_from fixup.run at_positions placed_stops placed_in premultiplied last_place around mixed joined row strip
p1-p10 = refl

-- ---- T-01
-- "red, white, blue all at 0 gives 191 128 191 255"; and bars of 2 px from −1 px on, in letters of any case
abbrev repeating_cases : List Case
repeating_cases =
    (drawn_from "repeating-linear-gradient(to top left, red 0, white 0, blue 0)" 1 1 gives pos 191 ∷ pos 128 ∷ pos 191 ∷ pos 255 ∷ [])
    ∷ (drawn_from "Repeating-Linear-Gradient(to right, red -1px, red 0px, lime 0px, lime 1px)" 3 1
    gives pos 0 ∷ pos 255 ∷ pos 0 ∷ pos 255 ∷ pos 255 ∷ pos 0 ∷ pos 0 ∷ pos 255 ∷ pos 0 ∷ pos 255 ∷ pos 0 ∷ pos 255 ∷ [])
    ∷ []

pub t-01 : map (λ c. c.given) repeating_cases ≡ map (λ c. c.stated) repeating_cases
unfolding floor_div to_unit root_in root_of shape_in radius_of line.length_of line.rule_of location_by norm line_length along vector_of peek_of rest_of text.run past is_space gap_of lower keyword_of whole_of color_names row_of named_of color_of is_digit decimal is_negative after_sign thousandths fraction_of magnitude_of unit_of number_of horizontal_of vertical_of horizontal_first vertical_first to_of angle_of direction_of extent_of size_of circle_first size_first circle_of at_of radial_of circle.length_of coordinate_of part_of second_of position.position_of items_of two_stops_of stops.stop_position_of stops.stop_of stops.stops_of with_stops linear_of circular_of closes_of body_of kind_of function_of read_reply read_of box_in rows_in strip_reply place_text_reply first_at last_at raised_from next spaced_from fixup.run at_positions placed_stops placed_in premultiplied last_place around mixed joined row strip moved_to remainder total_length entries_sum
t-01 = refl
