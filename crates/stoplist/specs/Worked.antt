-- Stops of the text worked out by computation.
-- Assumes nothing.
use Rattle.std.specs.Prelude.{◌≡◌, refl, List, [], ◌∷◌, pos, negsuc}
use Prim.Native.String.{String}
use Rattle.text.specs.Text.{bytes, peek_of, rest_of, run, past, Read, got, refused, is_space, gap_of, lower, keyword_of, whole_of}
use Rattle.tokens.specs.Number.{is_digit, decimal, is_negative, after_sign, thousandths, fraction_of, magnitude_of, unit_of, number_of, exact}
use Rattle.tokens.specs.Color.{color, is_hex, hex_value, hex_color, hex_of, color_names, row_of, named_of, color_of}
use Rattle.gradient.specs.declared.Color.{Color}
use Rattle.gradient.specs.declared.Position.TheVariants as P
use Rattle.gradient.specs.declared.Stop.{Stop}
use Rattle.stoplist.specs.Stops.{stop, stop_position_of, stop_of, items_of, stops_of, two_stops_of}

abbrev red : Color
red = color 255 0 0 255

abbrev blue : Color
blue = color 0 0 255 255

-- a whole item, and the items of a text as two stops or more
abbrev item : String → Read Stop
item w = whole_of (stop_of exact) (bytes w)

abbrev list : String → Read (List Stop)
list w = two_stops_of exact (items_of (bytes w))

-- a color alone, with a percentage (also with white space around it), and with a length; no white space between the two, and an angle
items :
    (item "red" ≡ got (stop red P.Auto) [])
    × (item "red 40%" ≡ got (stop red (P.Percentage (pos 40000))) [])
    × (item " Red \t40% " ≡ got (stop red (P.Percentage (pos 40000))) [])
    × (item "#0f0 -0.5px" ≡ got (stop (color 0 255 0 255) (P.Length (negsuc 499))) [])
    × (item "red40%" ≡ refused)
    × (item "red 5deg" ≡ refused)
unfolding whole_of stop_of stop_position_of color_of hex_of hex_color is_hex hex_value named_of color_names row_of keyword_of lower peek_of rest_of run past is_space gap_of number_of magnitude_of fraction_of thousandths decimal is_digit is_negative after_sign unit_of
items = (refl, refl, refl, refl, refl, refl)

-- two stops; a comma at the end, with an empty item after it; one stop alone
lists :
    (items_of (bytes "red, blue") ≡ bytes "red" ∷ bytes " blue" ∷ [])
    × (list "red, blue" ≡ got (stop red P.Auto ∷ stop blue P.Auto ∷ []) [])
    × (items_of (bytes "red,") ≡ bytes "red" ∷ [] ∷ [])
    × (list "red,blue," ≡ refused)
    × (list "red" ≡ refused)
unfolding items_of two_stops_of stops_of whole_of stop_of stop_position_of color_of named_of color_names row_of keyword_of lower peek_of rest_of past is_space gap_of number_of magnitude_of is_digit after_sign
lists = (refl, refl, refl, refl, refl)
