-- Document 01: "A position: one or two parts. Keywords are left, center, right, top, bottom. One part sets its own axis and the other is center; a
-- length, percentage or `center` alone is horizontal. In two parts the first is horizontal and the second vertical, but two keywords may come in
-- either order. `top 20px` and `left right` are not in the grammar." A position is its horizontal coordinate and its vertical one.
-- Assumes nothing.
use Rattle.std.specs.Prelude.{ℕ, ◌*◌, List, ◌++◌, ℤ, pos}
use Prim.Native.String.{String}
use Rattle.gradient.specs.declared.Coordinate.{Coordinate}
use Rattle.gradient.specs.declared.Coordinate.TheVariants as C
use Rattle.grammar.specs.Words.{Gap, OneOf}
use Rattle.grammar.specs.Numbers.{LengthText, PercentageText}

-- a percentage of the box, in thousandths as every number
abbrev pub percent : ℕ → Coordinate
percent n = C.Percentage (pos (1000 * n))

-- "Keywords are left, center, right, top, bottom": those of each axis, `center` being of both, with the percentages that CSS gives them
pub data Across : String → Coordinate → Type 0 where
  left : Across "left" (percent 0)
  center : Across "center" (percent 50)
  right : Across "right" (percent 100)

pub data Down : String → Coordinate → Type 0 where
  top : Down "top" (percent 0)
  center : Down "center" (percent 50)
  bottom : Down "bottom" (percent 100)

-- "a length, percentage"
pub data AmountText : List ℕ → Coordinate → Type 0 where
  length : {l : List ℕ} {z : ℤ} → LengthText l z → AmountText l (C.Length z)
  percentage : {l : List ℕ} {z : ℤ} → PercentageText l z → AmountText l (C.Percentage z)

-- a part that is horizontal, and one that is vertical
pub data AcrossText : List ℕ → Coordinate → Type 0 where
  keyword : {l : List ℕ} {c : Coordinate} → OneOf Across l c → AcrossText l c
  amount : {l : List ℕ} {c : Coordinate} → AmountText l c → AcrossText l c

pub data DownText : List ℕ → Coordinate → Type 0 where
  keyword : {l : List ℕ} {c : Coordinate} → OneOf Down l c → DownText l c
  amount : {l : List ℕ} {c : Coordinate} → AmountText l c → DownText l c

pub data PositionText : List ℕ → Coordinate × Coordinate → Type 0 where
  -- "One part sets its own axis and the other is center; a length, percentage or `center` alone is horizontal."
  horizontal : {l : List ℕ} {x : Coordinate} → AcrossText l x → PositionText l (x, percent 50)
  vertical : {l : List ℕ} {y : Coordinate} → OneOf Down l y → PositionText l (percent 50, y)
  -- "In two parts the first is horizontal and the second vertical,"
  both : {l g m : List ℕ} {x y : Coordinate} → AcrossText l x → Gap g → DownText m y → PositionText (l ++ (g ++ m)) (x, y)
  -- "but two keywords may come in either order."
  turned : {l g m : List ℕ} {x y : Coordinate} → OneOf Down l y → Gap g → OneOf Across m x → PositionText (l ++ (g ++ m)) (x, y)
