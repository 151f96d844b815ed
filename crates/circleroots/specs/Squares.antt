-- The squared distances of columns and rows from a circle's center, and the locations that they give. The center's coordinates are biased.
-- Assumes nothing.
use Rattle.std.specs.Prelude.{◌≡◌, ℕ, ◌+◌, ◌-◌, ◌*◌, ◌%◌, ◌<◌, ◌≤◌, List, length, slice_index}
use Rattle.numbers.specs.Biased.{bias, unbiased}
use Rattle.line.specs.Location.{squared, location_by}
use Rattle.line.specs.Circle.{from, circle_rule}
use Rattle.line.specs.Represented.{Near, center_in}
use Rattle.line.specs.declared.BiasedCenter.{BiasedCenter}
use Rattle.lowroots.specs.Found.{short_limit, Finds}
use Rattle.circleroots.specs.declared.RowsKnown.{RowsKnown}
use Rattle.circleroots.specs.declared.RowsKnown.TheVariants as R

-- the squares of 66 px and of 7 px
abbrev pub far_square : ℕ
far_square = 17842176

abbrev pub near_square : ℕ
near_square = 200704

-- the squared distance of the middle of column or row i from the center's coordinate c
abbrev pub square_of : ℕ → ℕ → ℕ
square_of c i = squared (from (unbiased c) (64 * i + 32))

-- row m, from row a up to row j, is as far from the center's coordinate c as row j
pub record Mirrored (c a j m : ℕ) : Type 0 where
  pub after : a ≤ m
  pub before : m ≤ j
  pub same : square_of c j ≡ square_of c m

-- the list has the low 32 bits of the squares of w columns
pub record LowHalves (c w : ℕ) (l : List ℕ) : Type 0 where
  pub room : w ≤ length l
  pub at : (i : ℕ) → i < w → slice_index l i ≡ square_of c i % 4294967296

-- the list has the locations of the first w pixels of row j
pub record Known (c : BiasedCenter) (w j : ℕ) (l : List ℕ) : Type 0 where
  pub at : (i : ℕ) → i < w → slice_index l i ≡ location_by (circle_rule (center_in c)) i j

-- .. of the row k above row j
pub record KnownBefore (c : BiasedCenter) (w k j : ℕ) (l : List ℕ) : Type 0 where
  pub row : ℕ
  pub next : row + k ≡ j
  pub known : Known c w row l

-- what is known of the rows above row j: nothing; `last` has the locations of the row above; and also `before` has those of the row above that
abbrev pub KnownAbove : RowsKnown → BiasedCenter → ℕ → ℕ → List ℕ → List ℕ → Type 0
KnownAbove R.None c w j before last = Unit {0}
KnownAbove R.One c w j before last = KnownBefore c w 1 j last
KnownAbove R.Two c w j before last = KnownBefore c w 1 j last × KnownBefore c w 2 j before

-- the first w numbers are in a table of n entries, the first of which is for `base`
pub record InTable (base n w : ℕ) (l : List ℕ) : Type 0 where
  pub low : (i : ℕ) → i < w → base ≤ slice_index l i
  pub high : (i : ℕ) → i < w → slice_index l i < base + n

-- ---- parts of a row: columns a up to b
-- the list has the locations of these pixels of row j
abbrev pub KnownPart : BiasedCenter → ℕ → ℕ → ℕ → List ℕ → Type 0
KnownPart c j a b l = (i : ℕ) → a ≤ i → i < b → slice_index l i ≡ location_by (circle_rule (center_in c)) i j

-- the other numbers of the list are as they were
pub record Kept (a b : ℕ) (old new : List ℕ) : Type 0 where
  pub before : (i : ℕ) → i < a → slice_index new i ≡ slice_index old i
  pub after : (i : ℕ) → b ≤ i → slice_index new i ≡ slice_index old i

-- .. and each of these was found from the one that it replaces, the one beside it in `last`, and the low 32 bits of its pixel's squared distance
pub record Found (find : ℕ → ℕ → ℕ → ℕ → Type 0) (r a b : ℕ) (low last old new : List ℕ) : Type 0 where
  pub kept : Kept a b old new
  pub each : (i : ℕ) → a ≤ i → i < b → find (slice_index old i) (slice_index last i) ((slice_index low i + r) % 4294967296) (slice_index new i)

-- b is found among the n numbers from a guess on, which is made from two roots
pub record Ahead (n limit low before last b : ℕ) : Type 0 where
  pub guess : ℕ
  pub fits : guess < 4294967296
  pub is : (guess + before + 1) % 4294967296 ≡ 2 * last % 4294967296
  pub found : Finds n limit low guess b

-- b is found among the 65 numbers from one root on, or from `down` below it
pub record Onward (low last down b : ℕ) : Type 0 where
  pub guess : ℕ
  pub is : last < short_limit → guess ≡ last - down
  pub found : Finds 65 short_limit low guess b

-- .. and these are the locations of row j, where `last` has those of the row above
pub record FromOneRow (c : BiasedCenter) (j a b : ℕ) (last old new : List ℕ) : Type 0 where
  pub kept : Kept a b old new
  pub part : (l : ℕ) → l + 1 ≡ j → KnownPart c l a b last → KnownPart c j a b new

-- .. where also `old` has those of the row above that
pub record FromTwoRows (c : BiasedCenter) (j a b : ℕ) (last old new : List ℕ) : Type 0 where
  pub kept : Kept a b old new
  pub part : (k l : ℕ) → k + 2 ≡ j → l + 1 ≡ j → KnownPart c k a b old → KnownPart c l a b last → KnownPart c j a b new

-- the squared distances of these pixels of row j are at least n
abbrev pub Beyond : BiasedCenter → ℕ → ℕ → ℕ → ℕ → Type 0
Beyond c n j a b = (i : ℕ) → a ≤ i → i < b → n ≤ square_of c.x i + square_of c.y j

-- the squared distances of the first w pixels of row j are below 2^43
abbrev pub Short : BiasedCenter → ℕ → ℕ → Type 0
Short c w j = (i : ℕ) → i < w → square_of c.x i + square_of c.y j < 8796093022208

-- of w columns, m is the one that the center's coordinate c lies in, or the nearest to it
pub record Nearest (c w m : ℕ) : Type 0 where
  pub within : m < w
  pub least : (i : ℕ) → i < w → square_of c m ≤ square_of c i
  pub before : 0 < m → 64 * m + bias ≤ c
  pub after : m + 1 < w → c < 64 * (m + 1) + bias

-- what it takes to find the locations of row j from those of other rows: the low 32 bits of its columns' squares, and lists of lengths p and q for them
pub record Guessable (c : BiasedCenter) (w j : ℕ) (low : List ℕ) (p q : ℕ) : Type 0 where
  pub near : Near c
  pub some : 0 < w
  pub width : w ≤ 2048
  pub height : j < 2048
  pub halves : LowHalves c.x w low
  pub room-before : w ≤ p
  pub room-last : w ≤ q

-- what it takes to find one of them by itself: the row's own square
pub record Measured (c : BiasedCenter) (j row : ℕ) : Type 0 where
  pub near : Near c
  pub height : j < 2048
  pub own : row ≡ square_of c.y j
