-- The direction of a linear gradient in the text. Document 01: "A direction is a side, a corner or an angle: `to` with one of left, right, top,
-- bottom, or one horizontal and one vertical word in either order, or a number with `deg`." `keep` is how a number is kept.
-- The code is proved by these definitions, and crate `grammar` proves that they are the grammar.
-- Assumes nothing.
use Rattle.std.specs.Prelude.{ℕ, List, ℤ}
use Rattle.text.specs.Text.{bytes, Read, got, refused, ◌>>=◌, ◌or_read◌, keyword_of, word_for, after_gap}
use Rattle.tokens.specs.declared.Unit.{Unit}
use Rattle.tokens.specs.declared.Unit.TheVariants as U
use Rattle.tokens.specs.Number.{number_of}
use Rattle.gradient.specs.declared.Side.{Side}
use Rattle.gradient.specs.declared.Side.TheVariants as S
use Rattle.gradient.specs.declared.Vertical.{Vertical}
use Rattle.gradient.specs.declared.Vertical.TheVariants as Ver
use Rattle.gradient.specs.declared.Horizontal.{Horizontal}
use Rattle.gradient.specs.declared.Horizontal.TheVariants as Hor
use Rattle.gradient.specs.declared.Direction.{Direction}
use Rattle.gradient.specs.declared.Direction.TheVariants as D

-- a horizontal word, and a vertical one
unfoldable pub horizontal_of : List ℕ → Read Horizontal
horizontal_of l = word_for "left" Hor.Left l or_read word_for "right" Hor.Right l

unfoldable pub vertical_of : List ℕ → Read Vertical
vertical_of l = word_for "top" Ver.Top l or_read word_for "bottom" Ver.Bottom l

abbrev pub side_across : Horizontal → Side
side_across Hor.Left = S.Left
side_across Hor.Right = S.Right

abbrev pub side_down : Vertical → Side
side_down Ver.Top = S.Top
side_down Ver.Bottom = S.Bottom

-- a horizontal word, and perhaps a vertical one after it; and the other way round
unfoldable pub horizontal_first : List ℕ → Read Direction
horizontal_first l =
    horizontal_of l >>= λ a k.
    (after_gap vertical_of k >>= λ v e. got (D.Corner v a) e) or_read got (D.Side (side_across a)) k

unfoldable pub vertical_first : List ℕ → Read Direction
vertical_first l =
    vertical_of l >>= λ v k.
    (after_gap horizontal_of k >>= λ a e. got (D.Corner v a) e) or_read got (D.Side (side_down v)) k

unfoldable pub to_of : List ℕ → Read Direction
to_of l = keyword_of (bytes "to") l >>= λ _ k. after_gap (λ m. horizontal_first m or_read vertical_first m) k

-- "a number with `deg`"
abbrev pub as_angle : ℤ → Unit → List ℕ → Read Direction
as_angle z U.Length l = refused
as_angle z U.Percentage l = refused
as_angle z U.Angle l = got (D.Angle z) l

unfoldable pub angle_of : (ℤ → ℤ) → List ℕ → Read Direction
angle_of keep l = number_of keep l >>= λ n k. as_angle n.value n.unit k

unfoldable pub direction_of : (ℤ → ℤ) → List ℕ → Read Direction
direction_of keep l = to_of l or_read angle_of keep l
