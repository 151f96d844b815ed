-- Pixels that are drawn from a table with one entry for each column or row, counted from the side that the line starts at.
-- Assumes nothing.
use Rattle.std.specs.Prelude.{◌≡◌, Bool, true, false, List, ℕ, ◌-◌, ◌<◌, ◌⊎◌, get_or}
use Rattle.words.specs.Word.{word_bytes}

-- the pixels of a small box's side, at most
abbrev pub small_side : ℕ
small_side = 256

-- n is one of two sides, and no smaller one does for k columns or rows
abbrev pub IsSide : ℕ → ℕ → Type 0
IsSide k n = (n ≡ small_side) ⊎ (n ≡ 2048) × (small_side < k)

-- pixel i of n, counted from the side that the line starts at, which is the last pixel's where the line goes back
abbrev pub from_start : Bool → ℕ → ℕ → ℕ
from_start true n i = n - 1 - i
from_start false n i = i

-- the first of the rows from a up to b of h, counted likewise
abbrev pub first_of : Bool → ℕ → ℕ → ℕ → ℕ
first_of true h a b = h - b
first_of false h a b = a

-- pixel (i, j) by its column, of w columns
abbrev pub by_column : List ℕ → Bool → ℕ → ℕ → ℕ → List ℕ
by_column t back w i j = word_bytes (get_or t (from_start back w i) 0)

-- pixel (i, j) by its row, of the rows from a up to b
abbrev pub by_row : List ℕ → Bool → ℕ → ℕ → ℕ → ℕ → List ℕ
by_row t back a b i j = word_bytes (get_or t (from_start back (b - a) (j - a)) 0)
