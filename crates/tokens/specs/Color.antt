-- A color of the text. Document 01: "A colour: `#` with 3, 4, 6 or 8 hex digits (short digits doubled, alpha 255 if absent), `transparent` (all
-- four 0), or one of the names" that the table below has.
-- The code is proved by these definitions, and crate `grammar` proves that they are the grammar.
-- Assumes nothing.
use Rattle.std.specs.Prelude.{ℕ, ◌+◌, ◌*◌, ◌-◌, List, [], ◌∷◌, Bool, true, false, cond, not, ◌||◌, ◌&&◌, eqb, length, get_or}
use Prim.Native.Char.{code}
use Prim.Native.String.{String}
use Rattle.text.specs.Text.{bytes, is, in_range, peek_of, rest_of, run, past, Read, got, refused, ◌>>=◌, ◌or_read◌, keyword_of}
use Rattle.gradient.specs.Lists.{all}
use Rattle.gradient.specs.declared.Color.{Color}

-- a color by its red, green, blue and alpha
abbrev pub color : ℕ → ℕ → ℕ → ℕ → Color
color r g b a = record { red = r; green = g; blue = b; alpha = a }

-- a hex digit in either case, and its value; any other byte's is 0
unfoldable pub is_hex : ℕ → Bool
is_hex b = in_range "0" "9" b || in_range "A" "F" b || in_range "a" "f" b

unfoldable pub hex_value : ℕ → ℕ
hex_value b =
    cond (in_range "0" "9" b) (b - code "0")
    (cond (in_range "A" "F" b) (b - code "A" + 10)
    (cond (in_range "a" "f" b) (b - code "a" + 10)
    0))

-- the hex digits at the front of l: digit i, counted from 0
abbrev pub digit : List ℕ → ℕ → ℕ
digit l i = hex_value (get_or l i 0)

-- the channel i of short digits, "doubled" (d is dd, 16·d + d); and of long ones, two to a channel
abbrev pub short : List ℕ → ℕ → ℕ
short l i = 17 * digit l i

abbrev pub long : List ℕ → ℕ → ℕ
long l i = 16 * digit l (2 * i) + digit l (2 * i + 1)

-- the channel i of short digits or of long ones
abbrev pub channel_of : Bool → List ℕ → ℕ → ℕ
channel_of true l i = short l i
channel_of false l i = long l i

-- the first three channels, with an alpha
abbrev pub of_channels : (ℕ → ℕ) → ℕ → Color
of_channels channel alpha = color (channel 0) (channel 1) (channel 2) alpha

-- "3, 4, 6 or 8 hex digits (short digits doubled, alpha 255 if absent)": n of them at the front of l, and the rest after them
unfoldable pub hex_color : ℕ → List ℕ → List ℕ → Read Color
hex_color n l rest =
    cond (eqb n 3) (got (of_channels (short l) 255) rest)
    (cond (eqb n 4) (got (of_channels (short l) (short l 3)) rest)
    (cond (eqb n 6) (got (of_channels (long l) 255) rest)
    (cond (eqb n 8) (got (of_channels (long l) (long l 3)) rest)
    refused)))

unfoldable pub hex_of : List ℕ → Read Color
hex_of l = hex_color (length (run is_hex l)) l (past is_hex l)

-- the names, each with its red, green, blue and alpha; `transparent` is one of them
pub record Row : Type 0 where
  pub name : List ℕ
  pub color : Color

abbrev row : String → ℕ → ℕ → ℕ → ℕ → Row
row w r g b a = record { name = bytes w; color = color r g b a }

unfoldable pub color_names : List Row
color_names =
    row "aqua" 0x00 0xff 0xff 0xff ∷
    row "black" 0x00 0x00 0x00 0xff ∷
    row "blue" 0x00 0x00 0xff 0xff ∷
    row "fuchsia" 0xff 0x00 0xff 0xff ∷
    row "gray" 0x80 0x80 0x80 0xff ∷
    row "green" 0x00 0x80 0x00 0xff ∷
    row "lime" 0x00 0xff 0x00 0xff ∷
    row "maroon" 0x80 0x00 0x00 0xff ∷
    row "navy" 0x00 0x00 0x80 0xff ∷
    row "olive" 0x80 0x80 0x00 0xff ∷
    row "purple" 0x80 0x00 0x80 0xff ∷
    row "red" 0xff 0x00 0x00 0xff ∷
    row "silver" 0xc0 0xc0 0xc0 0xff ∷
    row "teal" 0x00 0x80 0x80 0xff ∷
    row "white" 0xff 0xff 0xff 0xff ∷
    row "yellow" 0xff 0xff 0x00 0xff ∷
    row "transparent" 0x00 0x00 0x00 0x00 ∷
    []

-- the row i, counted from 0, and what stands past the end
abbrev pub no_row : Row
no_row = row "" 0 0 0 0

abbrev pub row_at : ℕ → Row
row_at i = get_or color_names i no_row

-- "one of the names": that of one row, and that of the first of some rows whose name stands there
unfoldable pub row_of : Row → List ℕ → Read Color
row_of w l = keyword_of w.name l >>= λ _ k. got w.color k

unfoldable pub named_of : List Row → List ℕ → Read Color
named_of [] l = refused
named_of (w ∷ t) l = row_of w l or_read named_of t l

-- "A colour": `#` with hex digits, or a name
unfoldable pub color_of : List ℕ → Read Color
color_of l = cond (is "#" (peek_of l)) (hex_of (rest_of l)) (named_of color_names l)

-- whether one word begins another; and whether no name of a table begins another name of it, so that all are different
unfoldable pub begins : List ℕ → List ℕ → Bool
begins [] b = true
begins (x ∷ a) [] = false
begins (x ∷ a) (y ∷ b) = eqb x y && begins a b

unfoldable pub apart : List Row → Bool
apart [] = true
apart (w ∷ t) = all (λ v. not (begins w.name v.name || begins v.name w.name)) t && apart t
