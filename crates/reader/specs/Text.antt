-- The whole text of a gradient, read. `keep` is how a number is kept.
-- The code is proved by these definitions, and crate `grammar` proves that they are the grammar.
-- Assumes nothing.
use Rattle.std.specs.Prelude.{ℕ, Bool, true, false, cond, ◌&&◌, List, [], ◌∷◌, ℤ}
use Rattle.text.specs.Text.{is, is_nil, is_space, past, peek_of, rest_of, Read, got, refused, ◌>>=◌, ◌or_read◌, map_read, whole_of, word_for}
use Rattle.gradient.specs.declared.Side.TheVariants as S
use Rattle.gradient.specs.declared.Direction.{Direction}
use Rattle.gradient.specs.declared.Direction.TheVariants as D
use Rattle.gradient.specs.declared.Shape.{Shape}
use Rattle.gradient.specs.declared.Shape.TheVariants as Sh
use Rattle.reader.specs.Written.{Written, written}
use Rattle.reader.specs.declared.Kind.{Kind}
use Rattle.reader.specs.declared.Kind.TheVariants as K
use Rattle.directions.specs.Direction.{direction_of}
use Rattle.circles.specs.Circle.{radial_of}
use Rattle.stoplist.specs.Stops.{items_of, two_stops_of}

-- the first item, and those after it
abbrev pub first : List (List ℕ) → List ℕ
first [] = []
first (i ∷ rest) = i

abbrev pub others : List (List ℕ) → List (List ℕ)
others [] = []
others (i ∷ rest) = rest

-- a shape, whether it repeats, and items that are its stops
unfoldable pub with_stops : (ℤ → ℤ) → Shape → Bool → List (List ℕ) → Read Written
with_stops keep shape r items = two_stops_of keep items >>= λ ss _. got (written shape r ss) []

-- "A linear chart: an optional direction and comma, then two or more stops split by commas." "Left out, it is `to bottom`."
abbrev pub by_direction : (ℤ → ℤ) → Read Direction → Bool → List (List ℕ) → Read Written
by_direction keep (got d _) r items = with_stops keep (Sh.Linear d) r (others items)
by_direction keep refused r items = with_stops keep (Sh.Linear (D.Side S.Bottom)) r items

unfoldable pub linear_of : (ℤ → ℤ) → Bool → List ℕ → Read Written
linear_of keep r l = by_direction keep (whole_of (direction_of keep) (first (items_of l))) r (items_of l)

-- "A radial chart: [a circle]; then a comma and two or more stops."
unfoldable pub circular_of : (ℤ → ℤ) → Bool → List ℕ → Read Written
circular_of keep r l = whole_of (radial_of keep) (first (items_of l)) >>= λ shape _. with_stops keep shape r (others (items_of l))

-- the closing bracket: only white space follows it
unfoldable pub closes_of : List ℕ → Bool
closes_of l = is ")" (peek_of l) && is_nil (past is_space (rest_of l))

-- what stands before the closing bracket
unfoldable pub body_of : List ℕ → Read (List ℕ)
body_of [] = refused
body_of (b ∷ l) = cond (closes_of (b ∷ l)) (got [] []) (map_read (λ body. b ∷ body) (body_of l))

-- "None stands between a function's name and its `(`". T-01: "Take `repeating-linear-gradient()` and its circular radial sibling."
unfoldable pub kind_of : List ℕ → Read Kind
kind_of l =
    word_for "linear-gradient(" (K.Linear false) l
    or_read word_for "radial-gradient(" (K.Radial false) l
    or_read word_for "repeating-linear-gradient(" (K.Linear true) l
    or_read word_for "repeating-radial-gradient(" (K.Radial true) l

abbrev pub of_kind : (ℤ → ℤ) → Kind → List ℕ → Read Written
of_kind keep (K.Linear r) body = linear_of keep r body
of_kind keep (K.Radial r) body = circular_of keep r body

unfoldable pub function_of : (ℤ → ℤ) → List ℕ → Read Written
function_of keep l = kind_of l >>= λ kind k. body_of k >>= λ body _. of_kind keep kind body

-- white space "may stand before and after the whole text"
abbrev pub gradient_of : (ℤ → ℤ) → List ℕ → Read Written
gradient_of keep l = function_of keep (past is_space l)
