-- Color stops in the text. Document 01: "A stop: a colour, then optionally a length or percentage." Stops are "split by commas", "two or more".
-- `keep` is how a number is kept.
-- The code is proved by these definitions, and crate `grammar` proves that they are the grammar.
-- Assumes nothing.
use Rattle.std.specs.Prelude.{ℕ, cond, List, [], ◌∷◌, ltb, ℤ, length}
use Rattle.text.specs.Text.{is, Read, got, refused, ◌>>=◌, ◌or_read◌, map_read, after_gap, whole_of}
use Rattle.tokens.specs.declared.Unit.{Unit}
use Rattle.tokens.specs.declared.Unit.TheVariants as U
use Rattle.tokens.specs.Number.{number_of}
use Rattle.tokens.specs.Color.{color_of}
use Rattle.gradient.specs.declared.Color.{Color}
use Rattle.gradient.specs.declared.Position.{Position}
use Rattle.gradient.specs.declared.Position.TheVariants as P
use Rattle.gradient.specs.declared.Stop.{Stop}

abbrev pub stop : Color → Position → Stop
stop v p = record { color = v; position = p }

-- a length or a percentage
abbrev pub as_position : Unit → ℤ → List ℕ → Read Position
as_position U.Length z l = got (P.Length z) l
as_position U.Percentage z l = got (P.Percentage z) l
as_position U.Angle z l = refused

unfoldable pub stop_position_of : (ℤ → ℤ) → List ℕ → Read Position
stop_position_of keep l = number_of keep l >>= λ n k. as_position n.unit n.value k

unfoldable pub stop_of : (ℤ → ℤ) → List ℕ → Read Stop
stop_of keep l = color_of l >>= λ v k. (after_gap (stop_position_of keep) k >>= λ p e. got (stop v p) e) or_read got (stop v P.Auto) k

-- the items of a text between its commas, at least one
abbrev pub onto : ℕ → List (List ℕ) → List (List ℕ)
onto b [] = (b ∷ []) ∷ []
onto b (x ∷ xs) = (b ∷ x) ∷ xs

unfoldable pub items_of : List ℕ → List (List ℕ)
items_of [] = [] ∷ []
items_of (b ∷ l) = cond (is "," b) ([] ∷ items_of l) (onto b (items_of l))

-- every item a stop
unfoldable pub stops_of : (ℤ → ℤ) → List (List ℕ) → Read (List Stop)
stops_of keep [] = got [] []
stops_of keep (i ∷ rest) = whole_of (stop_of keep) i >>= λ s _. map_read (λ ss. s ∷ ss) (stops_of keep rest)

-- "two or more stops"
unfoldable pub two_stops_of : (ℤ → ℤ) → List (List ℕ) → Read (List Stop)
two_stops_of keep items = stops_of keep items >>= λ ss _. cond (ltb (length ss) 2) refused (got ss [])
