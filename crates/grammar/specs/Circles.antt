-- What stands before the stops of a radial gradient. Document 01: "A radial chart: `circle`, or `circle` with a size on either side of it, or a single
-- length alone; then an optional `at` and position; [..]. A size is a length or closest-side, closest-corner, farthest-side, farthest-corner. Without
-- one it is farthest-corner. Without `at` the centre is the middle of the box."
-- Assumes nothing.
use Rattle.std.specs.Prelude.{ℕ, List, ◌++◌, ℤ}
use Prim.Native.String.{String}
use Rattle.gradient.specs.declared.Coordinate.{Coordinate}
use Rattle.gradient.specs.declared.Extent.{Extent}
use Rattle.gradient.specs.declared.Extent.TheVariants as E
use Rattle.gradient.specs.declared.Size.{Size}
use Rattle.gradient.specs.declared.Size.TheVariants as Z
use Rattle.gradient.specs.declared.Shape.{Shape}
use Rattle.gradient.specs.declared.Shape.TheVariants as Sh
use Rattle.grammar.specs.Words.{Gap, Word, OneOf}
use Rattle.grammar.specs.Numbers.{LengthText}
use Rattle.grammar.specs.Positions.{percent, PositionText}

-- "closest-side, closest-corner, farthest-side, farthest-corner"
pub data ExtentWord : String → Extent → Type 0 where
  closest-side : ExtentWord "closest-side" E.ClosestSide
  closest-corner : ExtentWord "closest-corner" E.ClosestCorner
  farthest-side : ExtentWord "farthest-side" E.FarthestSide
  farthest-corner : ExtentWord "farthest-corner" E.FarthestCorner

-- "A size is a length or closest-side, closest-corner, farthest-side, farthest-corner."
pub data SizeText : List ℕ → Size → Type 0 where
  length : {l : List ℕ} {z : ℤ} → LengthText l z → SizeText l (Z.Length z)
  extent : {l : List ℕ} {e : Extent} → OneOf ExtentWord l e → SizeText l (Z.Extent e)

pub data CircleText : List ℕ → Size → Type 0 where
  -- "`circle`"; "Without [a size] it is farthest-corner."
  circle : {l : List ℕ} → Word "circle" l → CircleText l (Z.Extent E.FarthestCorner)
  -- "or `circle` with a size on either side of it"
  size-after : {l g m : List ℕ} {z : Size} → Word "circle" l → Gap g → SizeText m z → CircleText (l ++ (g ++ m)) z
  size-before : {l g m : List ℕ} {z : Size} → SizeText l z → Gap g → Word "circle" m → CircleText (l ++ (g ++ m)) z
  -- "or a single length alone"
  length : {l : List ℕ} {z : ℤ} → LengthText l z → CircleText l (Z.Length z)

pub data ShapeText : List ℕ → Shape → Type 0 where
  -- "Without `at` the centre is the middle of the box."
  centered : {l : List ℕ} {z : Size} → CircleText l z → ShapeText l (Sh.Circle z (percent 50) (percent 50))
  -- "then an optional `at` and position"
  positioned : {l g m h n : List ℕ} {z : Size} {p : Coordinate × Coordinate} → CircleText l z → Gap g → Word "at" m → Gap h → PositionText n p
      → ShapeText (l ++ (g ++ (m ++ (h ++ n)))) (Sh.Circle z p.0 p.1)
