-- The position of a circle's center in the text. Document 01: "A position: one or two parts. Keywords are left, center, right, top, bottom. One
-- part sets its own axis and the other is center; a length, percentage or `center` alone is horizontal. In two parts the first is horizontal and
-- the second vertical, but two keywords may come in either order." `keep` is how a number is kept.
-- The code is proved by these definitions, and crate `grammar` proves that they are the grammar.
-- Assumes nothing.
use Rattle.std.specs.Prelude.{ℕ, Bool, true, false, cond, ◌&&◌, List, Option, Some, None, ℤ, pos}
use Rattle.text.specs.Text.{Read, got, refused, ◌>>=◌, ◌or_read◌, word_for, after_gap}
use Rattle.tokens.specs.declared.Unit.{Unit}
use Rattle.tokens.specs.declared.Unit.TheVariants as U
use Rattle.tokens.specs.Number.{number_of}
use Rattle.gradient.specs.declared.Vertical.{Vertical}
use Rattle.gradient.specs.declared.Vertical.TheVariants as Ver
use Rattle.gradient.specs.declared.Horizontal.{Horizontal}
use Rattle.gradient.specs.declared.Horizontal.TheVariants as Hor
use Rattle.gradient.specs.declared.Coordinate.{Coordinate}
use Rattle.gradient.specs.declared.Coordinate.TheVariants as C
use Rattle.circles.specs.declared.Part.{Part}
use Rattle.circles.specs.declared.Part.TheVariants as P
use Rattle.circles.specs.declared.Place.{Place}
use Rattle.directions.specs.Direction.{horizontal_of, vertical_of}

-- a length or a percentage
abbrev pub as_coordinate : ℤ → Unit → List ℕ → Read Coordinate
as_coordinate z U.Length l = got (C.Length z) l
as_coordinate z U.Percentage l = got (C.Percentage z) l
as_coordinate z U.Angle l = refused

unfoldable pub coordinate_of : (ℤ → ℤ) → List ℕ → Read Coordinate
coordinate_of keep l = number_of keep l >>= λ n k. as_coordinate n.value n.unit k

-- one part: a keyword, or a length or percentage
unfoldable pub part_of : (ℤ → ℤ) → List ℕ → Read Part
part_of keep l =
    (horizontal_of l >>= λ a k. got (P.Across a) k)
    or_read (vertical_of l >>= λ v k. got (P.Down v) k)
    or_read word_for "center" P.Center l
    or_read (coordinate_of keep l >>= λ c k. got (P.At c) k)

-- keywords as percentages of the box
abbrev pub percent : ℕ → Coordinate
percent n = C.Percentage (pos n)

abbrev pub middle : Coordinate
middle = percent 50000

abbrev pub across_at : Horizontal → Coordinate
across_at Hor.Left = percent 0
across_at Hor.Right = percent 100000

abbrev pub down_at : Vertical → Coordinate
down_at Ver.Top = percent 0
down_at Ver.Bottom = percent 100000

-- a part as the horizontal coordinate, and as the vertical one
abbrev pub as_across : Part → Option Coordinate
as_across (P.Across a) = Some (across_at a)
as_across (P.Down v) = None
as_across P.Center = Some middle
as_across (P.At c) = Some c

abbrev pub as_down : Part → Option Coordinate
as_down (P.Across a) = None
as_down (P.Down v) = Some (down_at v)
as_down P.Center = Some middle
as_down (P.At c) = Some c

abbrev pub is_keyword : Part → Bool
is_keyword (P.Across a) = true
is_keyword (P.Down v) = true
is_keyword P.Center = true
is_keyword (P.At c) = false

abbrev pub place : Coordinate → Coordinate → Place
place x y = record { x = x; y = y }

-- "One part sets its own axis and the other is center; a length, percentage or `center` alone is horizontal"
abbrev pub one_part : Part → Place
one_part (P.Across a) = place (across_at a) middle
one_part (P.Down v) = place middle (down_at v)
one_part P.Center = place middle middle
one_part (P.At c) = place c middle

-- two axes that are both there
abbrev pub paired : Option Coordinate → Option Coordinate → Option Place
paired (Some x) (Some y) = Some (place x y)
paired (Some x) None = None
paired None y = None

abbrev pub or_pair : Option Place → Option Place → Option Place
or_pair (Some p) q = Some p
or_pair None q = q

-- "In two parts the first is horizontal and the second vertical, but two keywords may come in either order"
abbrev pub two_parts : Part → Part → Option Place
two_parts a b = or_pair (paired (as_across a) (as_down b)) (cond (is_keyword a && is_keyword b) (paired (as_across b) (as_down a)) None)

abbrev pub placed : Option Place → List ℕ → Read Place
placed (Some p) l = got p l
placed None l = refused

-- a second part, after the part a
unfoldable pub second_of : (ℤ → ℤ) → Part → List ℕ → Read Place
second_of keep a l = part_of keep l >>= λ b e. placed (two_parts a b) e

unfoldable pub position_of : (ℤ → ℤ) → List ℕ → Read Place
position_of keep l =
    part_of keep l >>= λ a k.
    after_gap (second_of keep a) k or_read got (one_part a) k
