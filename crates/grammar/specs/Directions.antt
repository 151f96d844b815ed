-- Document 01: "A direction is a side, a corner or an angle: `to` with one of left, right, top, bottom, or one horizontal and one vertical word in
-- either order, or a number with `deg`."
-- Assumes nothing.
use Rattle.std.specs.Prelude.{ℕ, List, ◌++◌, ℤ}
use Prim.Native.String.{String}
use Rattle.gradient.specs.declared.Side.{Side}
use Rattle.gradient.specs.declared.Side.TheVariants as S
use Rattle.gradient.specs.declared.Vertical.{Vertical}
use Rattle.gradient.specs.declared.Vertical.TheVariants as Ver
use Rattle.gradient.specs.declared.Horizontal.{Horizontal}
use Rattle.gradient.specs.declared.Horizontal.TheVariants as Hor
use Rattle.gradient.specs.declared.Direction.{Direction}
use Rattle.gradient.specs.declared.Direction.TheVariants as D
use Rattle.grammar.specs.Words.{Gap, Word, OneOf}
use Rattle.grammar.specs.Numbers.{AngleText}

-- "one of left, right, top, bottom"
pub data SideWord : String → Side → Type 0 where
  left : SideWord "left" S.Left
  right : SideWord "right" S.Right
  top : SideWord "top" S.Top
  bottom : SideWord "bottom" S.Bottom

-- "one horizontal [..] word"
pub data HorizontalWord : String → Horizontal → Type 0 where
  left : HorizontalWord "left" Hor.Left
  right : HorizontalWord "right" Hor.Right

-- "one vertical word"
pub data VerticalWord : String → Vertical → Type 0 where
  top : VerticalWord "top" Ver.Top
  bottom : VerticalWord "bottom" Ver.Bottom

pub data DirectionText : List ℕ → Direction → Type 0 where
  -- "`to` with one of left, right, top, bottom"
  side : {l g m : List ℕ} {s : Side} → Word "to" l → Gap g → OneOf SideWord m s → DirectionText (l ++ (g ++ m)) (D.Side s)
  -- "or one horizontal and one vertical word"
  horizontal-first : {l g m h n : List ℕ} {a : Horizontal} {v : Vertical}
      → Word "to" l → Gap g → OneOf HorizontalWord m a → Gap h → OneOf VerticalWord n v → DirectionText (l ++ (g ++ (m ++ (h ++ n)))) (D.Corner v a)
  -- "in either order"
  vertical-first : {l g m h n : List ℕ} {a : Horizontal} {v : Vertical}
      → Word "to" l → Gap g → OneOf VerticalWord m v → Gap h → OneOf HorizontalWord n a → DirectionText (l ++ (g ++ (m ++ (h ++ n)))) (D.Corner v a)
  -- "or a number with `deg`"
  angle : {l : List ℕ} {z : ℤ} → AngleText l z → DirectionText l (D.Angle z)
