-- Lent stops that are repeated, and their colors as words.
-- Assumes nothing.
use Rattle.std.specs.Prelude.{◌≡◌, List, ℕ, ◌+◌, ◌-◌, ◌*◌, ◌≤◌, ◌<◌, length, get_or}
use Rattle.numbers.specs.Biased.{twice_bias, unbiased}
use Rattle.color.specs.Lent.{Lent, stops_of, moved_biased}
use Rattle.color.specs.Paint.{repeated, paint_at}
use Rattle.table.specs.Table.{packed}

-- the biased positions of the first and of the last stop
abbrev pub first_in : List ℕ → ℕ
first_in ps = get_or ps 0 0

abbrev pub last_in : List ℕ → ℕ
last_in ps = get_or ps (length ps - 1) 0

-- what the code asks of stops that are repeated: they can be lent, and their period is above 0
pub record Periodic (ps vs : List ℕ) : Type 0 where
  pub lent : Lent ps vs
  pub period : first_in ps < last_in ps
  pub range : last_in ps ≤ twice_bias

-- the color at a biased location
unfoldable pub repeated_of : List ℕ → List ℕ → ℕ → ℕ
repeated_of ps vs at = packed (paint_at (repeated (stops_of ps vs)) (unbiased at))

-- the biased location that it is moved to
abbrev pub moved_in : List ℕ → ℕ → ℕ
moved_in ps at = moved_biased (first_in ps) (last_in ps) at

-- the color of entry k of a table that starts at the biased location `first` and has an entry every s units
abbrev pub repeated_at : List ℕ → List ℕ → ℕ → ℕ → ℕ → ℕ
repeated_at ps vs first s k = repeated_of ps vs (first + k * s)

-- the entries are f's
abbrev pub Filled : (ℕ → ℕ) → List ℕ → Type 0
Filled f t = (k : ℕ) → k < length t → get_or t k 0 ≡ f k
