-- What the rows around a circle's center are drawn with, and the locations that they leave for the rows below.
-- Assumes nothing.
use Rattle.std.specs.Prelude.{◌≡◌, List, ℕ, ◌+◌, ◌*◌, ◌%◌, ◌≤◌, length}
use Rattle.line.specs.Box.{Box}
use Rattle.line.specs.Represented.{Near}
use Rattle.line.specs.declared.BiasedCenter.{BiasedCenter}
use Rattle.ramp.specs.Ramp.{Ramp}
use Rattle.rows.specs.Pixel.{Rows}
use Rattle.rows.specs.declared.Strip.{Strip}
use Rattle.circleroots.specs.Squares.{square_of, Known}
use Rattle.circleroots.specs.declared.RowsKnown.{RowsKnown}
use Rattle.circleroots.specs.declared.RowsKnown.TheVariants as R

-- a ramp, and a center in a box
pub record Prepared (rp : List ℕ) (c : BiasedCenter) (w h : ℕ) : Type 0 where
  pub ramp : Ramp rp
  pub near : Near c
  pub box : Box w h

-- a center, and a strip with n bytes for it
pub record Circular (c : BiasedCenter) (z : Strip) (n : ℕ) : Type 0 where
  pub near : Near c
  pub box : Box z.w z.h
  pub strip : Rows z n

-- of w columns, those from the n-th on are as far from the center's coordinate c as their mirror images, which are before the n-th
pub record Halved (c w n : ℕ) : Type 0 where
  pub some : 1 ≤ n
  pub within : n ≤ w
  pub half : w ≤ 2 * n
  pub same : (i k : ℕ) → n ≤ i → i + k + 1 ≡ w → square_of c i ≡ square_of c k

-- of w pixels of row j, four bytes each, those from the n-th on are their mirror images
pub record Symmetric (px : ℕ → ℕ → List ℕ) (w n j : ℕ) : Type 0 where
  pub four : (i j : ℕ) → length (px i j) ≡ 4
  pub same : (i k : ℕ) → n ≤ i → i + k + 1 ≡ w → px i j ≡ px k j

-- the locations of row j stand in p where j is even, else in q
pub record InTurn (c : BiasedCenter) (w j : ℕ) (p q : List ℕ) : Type 0 where
  pub even : j % 2 ≡ 0 → Known c w j p
  pub odd : j % 2 ≡ 1 → Known c w j q

-- .. those of the row k above row j
pub record BeforeInTurn (c : BiasedCenter) (w k j : ℕ) (p q : List ℕ) : Type 0 where
  pub row : ℕ
  pub next : row + k ≡ j
  pub turn : InTurn c w row p q

-- what is known of the rows above row j: nothing; the locations of the row above; and also those of the row above that
abbrev pub AboveInTurn : RowsKnown → BiasedCenter → ℕ → ℕ → List ℕ → List ℕ → Type 0
AboveInTurn R.None c w j p q = Unit {0}
AboveInTurn R.One c w j p q = BeforeInTurn c w 1 j p q
AboveInTurn R.Two c w j p q = BeforeInTurn c w 1 j p q × BeforeInTurn c w 2 j p q

-- a row that is drawn is known to the next one
abbrev pub one_more : RowsKnown → RowsKnown
one_more R.None = R.One
one_more R.One = R.Two
one_more R.Two = R.Two
