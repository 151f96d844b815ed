-- How the code represents spots, and what its functions say of them: the biased position, and none for a stop that is not placed.
-- Assumes nothing.
use Rattle.std.specs.Prelude.{◌≡◌, true, List, [], ◌∷◌, map, ℕ, ℤ, Option, Some, None}
use Rattle.std.specs.Int.Signed.{le_z}
use Rattle.numbers.specs.Biased.{unbiased}
use Rattle.placing.specs.Spot.{Spot, unplaced, at}
use Rattle.placing.specs.Fixup.{next, run}

abbrev pub spot : Option ℕ → Spot
spot None = unplaced
spot (Some u) = at (unbiased u)

-- spacing can go on from A: the placed stop after an unplaced one is not below the one before it
unfoldable pub Ready : ℤ → List Spot → Type 0
Ready A [] = Unit {0}
Ready A (at p ∷ l) = Ready p l
Ready A (unplaced ∷ l) = (le_z A (next l) ≡ true) × Ready A l

-- what a search finds: the next placed stop, and how many unplaced ones stand before it
pub record Follows (l : List (Option ℕ)) (to count : ℕ) : Type 0 where
  pub position : unbiased to ≡ next (map spot l)
  pub stops : count ≡ run (map spot l)
