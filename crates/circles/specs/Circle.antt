-- The head of a radial gradient in the text. Document 01: "`circle`, or `circle` with a size on either side of it, or a single length alone; then
-- an optional `at` and position". `keep` is how a number is kept.
-- The code is proved by these definitions, and crate `grammar` proves that they are the grammar.
-- Assumes nothing.
use Rattle.std.specs.Prelude.{ℕ, List, ℤ}
use Rattle.text.specs.Text.{bytes, Read, got, refused, ◌>>=◌, ◌or_read◌, keyword_of, word_for, after_gap}
use Rattle.tokens.specs.declared.Unit.{Unit}
use Rattle.tokens.specs.declared.Unit.TheVariants as U
use Rattle.tokens.specs.Number.{number_of}
use Rattle.gradient.specs.declared.Extent.{Extent}
use Rattle.gradient.specs.declared.Extent.TheVariants as E
use Rattle.gradient.specs.declared.Size.{Size}
use Rattle.gradient.specs.declared.Size.TheVariants as Z
use Rattle.gradient.specs.declared.Shape.{Shape}
use Rattle.gradient.specs.declared.Shape.TheVariants as Sh
use Rattle.circles.specs.declared.Place.{Place}
use Rattle.circles.specs.Position.{middle, place, position_of}

-- "A size is a length or closest-side, closest-corner, farthest-side, farthest-corner."
unfoldable pub extent_of : List ℕ → Read Extent
extent_of l =
    word_for "closest-side" E.ClosestSide l
    or_read word_for "closest-corner" E.ClosestCorner l
    or_read word_for "farthest-side" E.FarthestSide l
    or_read word_for "farthest-corner" E.FarthestCorner l

abbrev pub as_length : ℤ → Unit → List ℕ → Read Size
as_length z U.Length l = got (Z.Length z) l
as_length z U.Percentage l = refused
as_length z U.Angle l = refused

unfoldable pub length_of : (ℤ → ℤ) → List ℕ → Read Size
length_of keep l = number_of keep l >>= λ n k. as_length n.value n.unit k

unfoldable pub size_of : (ℤ → ℤ) → List ℕ → Read Size
size_of keep l = (extent_of l >>= λ e k. got (Z.Extent e) k) or_read length_of keep l

-- "`circle`, or `circle` with a size on either side of it, or a single length alone"; "Without one it is farthest-corner."
unfoldable pub circle_first : (ℤ → ℤ) → List ℕ → Read Size
circle_first keep l =
    keyword_of (bytes "circle") l >>= λ _ k. after_gap (size_of keep) k or_read got (Z.Extent E.FarthestCorner) k

unfoldable pub size_first : (ℤ → ℤ) → List ℕ → Read Size
size_first keep l = size_of keep l >>= λ z k. after_gap (word_for "circle" z) k

unfoldable pub circle_of : (ℤ → ℤ) → List ℕ → Read Size
circle_of keep l = circle_first keep l or_read size_first keep l or_read length_of keep l

-- "then an optional `at` and position"; "Without `at` the centre is the middle of the box."
unfoldable pub at_of : (ℤ → ℤ) → List ℕ → Read Place
at_of keep l = after_gap (keyword_of (bytes "at")) l >>= λ _ k. after_gap (position_of keep) k

unfoldable pub radial_of : (ℤ → ℤ) → List ℕ → Read Shape
radial_of keep l = circle_of keep l >>= λ z k. (at_of keep k or_read got (place middle middle) k) >>= λ p e. got (Sh.Circle z p.x p.y) e
