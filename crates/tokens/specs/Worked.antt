-- Numbers and colors of the text worked out by computation.
-- Assumes nothing.
use Rattle.std.specs.Prelude.{◌≡◌, refl, [], ℤ, pos, negsuc}
use Prim.Native.String.{String}
use Rattle.text.specs.Text.{bytes, peek_of, rest_of, run, past, got, refused, lower, keyword_of}
use Rattle.gradient.specs.declared.Color.{Color}
use Rattle.tokens.specs.declared.Unit.{Unit}
use Rattle.tokens.specs.declared.Unit.TheVariants.{Length, Percentage, Angle}
use Rattle.tokens.specs.Number.{is_digit, decimal, is_negative, after_sign, thousandths, fraction_of, magnitude_of, unit_of, number, number_of, exact}
use Rattle.tokens.specs.Cut.{cut}
use Rattle.tokens.specs.Color.{color, is_hex, hex_value, hex_color, hex_of, color_names, row_of, named_of, color_of}

-- a text that is a number and nothing more, and one that does not begin with a number
Is : String → ℤ → Unit → Type 0
Is text z u = number_of exact (bytes text) ≡ got (number z u) []

NoNumber : String → Type 0
NoNumber text = number_of exact (bytes text) ≡ refused

numbers :
    Is ".5px" (pos 500) Length × Is "007px" (pos 7000) Length × Is "-0.01px" (negsuc 9) Length × Is "8192.001Px" (pos 8192001) Length ×
    Is "0.5%" (pos 500) Percentage × Is "+33.33%" (pos 33330) Percentage × Is "45.1DEG" (pos 45100) Angle
unfolding Is number_of is_negative after_sign magnitude_of fraction_of thousandths unit_of is_digit decimal peek_of rest_of run past lower keyword_of
numbers = (refl, refl, refl, refl, refl, refl, refl)

-- a bare number whose digits are all 0
zeros : Is "+0" (pos 0) Length × Is "-0.000" (pos 0) Length × Is ".00" (pos 0) Length
unfolding Is number_of is_negative after_sign magnitude_of fraction_of thousandths unit_of is_digit decimal peek_of rest_of run past lower keyword_of
zeros = (refl, refl, refl)

no-numbers :
    NoNumber "5" × NoNumber "5." × NoNumber "5.px" × NoNumber ".px" × NoNumber "1.2345px" × NoNumber "1e3px" × NoNumber "5 px" ×
    NoNumber "+" × NoNumber "--5px" × NoNumber ""
unfolding NoNumber number_of is_negative after_sign magnitude_of fraction_of thousandths unit_of is_digit decimal peek_of rest_of run past lower keyword_of
no-numbers = (refl, refl, refl, refl, refl, refl, refl, refl, refl, refl)

-- a number is exact however long it is; the code cuts it off
long-number :
    Is "-98765432109876543.21px" (negsuc 98765432109876543209) Length ×
    (number_of cut (bytes "-98765432109876543.21px") ≡ got (number (negsuc 999999999) Length) [])
unfolding Is number_of is_negative after_sign magnitude_of fraction_of thousandths unit_of is_digit decimal peek_of rest_of run past lower keyword_of cut
long-number = (refl, refl)

-- a text that is a color and nothing more, and one that does not begin with a color
IsColor : String → Color → Type 0
IsColor text v = color_of (bytes text) ≡ got v []

NoColor : String → Type 0
NoColor text = color_of (bytes text) ≡ refused

colors :
    IsColor "#fff" (color 255 255 255 255) × IsColor "#F00f" (color 255 0 0 255) × IsColor "#1a2B3c" (color 26 43 60 255) ×
    IsColor "#12345678" (color 18 52 86 120) × IsColor "RED" (color 255 0 0 255) × IsColor "Silver" (color 192 192 192 255) ×
    IsColor "transparent" (color 0 0 0 0)
unfolding IsColor color_of hex_of hex_color is_hex hex_value named_of row_of color_names peek_of rest_of run past lower keyword_of
colors = (refl, refl, refl, refl, refl, refl, refl)

no-colors : NoColor "#12345" × NoColor "#ff" × NoColor "#123456789" × NoColor "#" × NoColor "grey" × NoColor ""
unfolding NoColor color_of hex_of hex_color is_hex hex_value named_of row_of color_names peek_of rest_of run past lower keyword_of
no-colors = (refl, refl, refl, refl, refl, refl)
