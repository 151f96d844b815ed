-- The table of sines as the code keeps it, and what T-09 asks of it: "Store the 361 sines as 360 one-byte differences, since no two neighbours differ
-- by more than 72. Show that every rebuilt sine equals the old entry".
-- Assumes nothing.
use Rattle.std.specs.Prelude.{◌≡◌, List, [], ◌∷◌, ℕ, ◌+◌, ◌-◌, ◌≤◌, ◌<◌, length, get_or, take}
use Rattle.sine.specs.Sines.{sines, sine_of, AtMostApart}

-- how far each number is above the one before it
unfoldable pub differences_of : List ℕ → List ℕ
differences_of [] = []
differences_of (a ∷ []) = []
differences_of (a ∷ b ∷ r) = (b - a) ∷ differences_of (b ∷ r)

-- all numbers of a list, added up
unfoldable pub sum_of : List ℕ → ℕ
sum_of [] = 0
sum_of (a ∷ r) = a + sum_of r

-- the sine of k quarter degrees, rebuilt: the first k differences, added up
unfoldable pub rebuilt_of : ℕ → ℕ
rebuilt_of k = sum_of (take k (differences_of sines))

pub record Rebuilt : Type 0 where
  -- "360 one-byte differences"
  pub count : length (differences_of sines) ≡ 360
  pub byte : (k : ℕ) → k < 360 → get_or (differences_of sines) k 0 < 256
  -- "no two neighbours differ by more than 72"
  pub near : (k : ℕ) → k < 360 → AtMostApart 72 (sine_of k) (sine_of (k + 1))
  -- "every rebuilt sine equals the old entry"
  pub same : (k : ℕ) → k ≤ 360 → rebuilt_of k ≡ sine_of k
