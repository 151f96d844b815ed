-- The reply numbers, in the words of document 01's table, and their order: "The lowest number that applies is given."
-- Assumes nothing.
use Rattle.std.specs.Prelude.{Bool, cond, ℕ, zero, suc, min}

-- "none of the rows below applies"
abbrev pub done : ℕ
done = 0

-- "width or height outside 1 to 2,048"
abbrev pub bad_box : ℕ
bad_box = 1

-- "buffer shorter than 4·W·H bytes"; of a chart or stops, a lent slice "shorter than the one size docs/ states with its layout"
abbrev pub no_room : ℕ
no_room = 2

-- "text longer than 1,024 bytes"
abbrev pub long_text : ℕ
long_text = 3

-- "text is not in the grammar"; "A chart or stop list handed in .. that breaks its layout in docs/ also gets 4"
abbrev pub malformed : ℕ
malformed = 4

-- "a number is outside its range"
abbrev pub out_of_range : ℕ
out_of_range = 5

-- "more than 16 stops"
abbrev pub too_many_stops : ℕ
too_many_stops = 6

-- T-08: "8 when a is not below b or b is above the height; it comes after 1"
abbrev pub bad_rows : ℕ
bad_rows = 8

-- a row of the table: its number where it applies, else none
abbrev pub given : Bool → ℕ → ℕ
given applies number = cond applies number done

-- the first reply, or the second where the first is 0; rows are joined in the order in which they are judged: from the lowest number up, 8 after 1
infixr 40 ◌or_else◌
abbrev pub ◌or_else◌ : ℕ → ℕ → ℕ
zero or_else b = b
suc a or_else b = suc a

-- the lower of two replies that apply
unfoldable pub lowest : ℕ → ℕ → ℕ
lowest zero b = b
lowest (suc a) zero = suc a
lowest (suc a) (suc b) = min (suc a) (suc b)
