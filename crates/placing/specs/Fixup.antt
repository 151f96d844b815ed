-- Color stop fixup: document 01's steps (a), (b) and (c), on the spots of a list of stops, in the stops' order.
-- Assumes nothing.
use Rattle.std.specs.Prelude.{◌≡◌, true, cond, List, [], ◌∷◌, ℕ, suc, ◌+◌, ◌≤◌, ◌<◌, ℤ, pos, ◌+ℤ◌, ◌-ℤ◌, ◌*ℤ◌, length, get_or}
use Rattle.std.specs.Int.Signed.{le_z}
use Rattle.numbers.specs.Units.{to_unit}
use Rattle.placing.specs.Spot.{Spot, unplaced, at}

-- ---- (a) "An unplaced first stop gets 0, an unplaced last one the line length; percentages are of the line length." (`spot_of` takes the
-- percentages.)

-- z for a stop that is not placed
abbrev pub or_at : ℤ → Spot → Spot
or_at z unplaced = at z
or_at z (at p) = at p

unfoldable pub first_at : ℤ → List Spot → List Spot
first_at z [] = []
first_at z (s ∷ l) = or_at z s ∷ l

unfoldable pub last_at : ℤ → List Spot → List Spot
last_at z [] = []
last_at z (s ∷ []) = or_at z s ∷ []
last_at z (s ∷ t ∷ l) = s ∷ last_at z (t ∷ l)

abbrev pub ends_placed : ℕ → List Spot → List Spot
ends_placed line l = last_at (pos line) (first_at (pos 0) l)

-- ---- (b) "A placed stop below the greatest earlier placed stop is raised to it."

abbrev pub maxℤ : ℤ → ℤ → ℤ
maxℤ a b = cond (le_z a b) b a

-- p, or the greatest earlier placed stop where p is below it; the first argument is that stop, if there is one
abbrev pub raised_to : Spot → ℤ → ℤ
raised_to unplaced p = p
raised_to (at greatest) p = maxℤ greatest p

unfoldable pub raised_from : Spot → List Spot → List Spot
raised_from greatest [] = []
raised_from greatest (unplaced ∷ l) = unplaced ∷ raised_from greatest l
raised_from greatest (at p ∷ l) = at (raised_to greatest p) ∷ raised_from (at (raised_to greatest p)) l

abbrev pub raised : List Spot → List Spot
raised l = raised_from unplaced l

-- ---- (c) "A run of unplaced stops between placed A and B, k−1 stops long, gets A + floor((B−A)·m/k) for m = 1 to k−1", with the nearest unit
-- for the floor since T-03 of document 02

-- the first placed stop of a list, and how many unplaced stops stand before it; after (a) there always is one
unfoldable pub next : List Spot → ℤ
next [] = pos 0
next (unplaced ∷ l) = next l
next (at p ∷ l) = p

unfoldable pub run : List Spot → ℕ
run [] = 0
run (unplaced ∷ l) = suc (run l)
run (at p ∷ l) = 0

-- the m-th of the k−1 stops between A and B
abbrev pub between : ℤ → ℤ → ℕ → ℕ → ℤ
between A B m k = A +ℤ to_unit ((B -ℤ A) *ℤ pos m) k

-- A is the last placed stop, and the next unplaced one is the m-th after it. There the run has m − 1 stops before this one and `run l` after
-- it, so k is m + 1 + run l.
unfoldable pub spaced_from : ℤ → ℕ → List Spot → List ℤ
spaced_from A m [] = []
spaced_from A m (at p ∷ l) = p ∷ spaced_from p 1 l
spaced_from A m (unplaced ∷ l) = between A (next l) m (m + 1 + run l) ∷ spaced_from A (m + 1) l

abbrev pub spaced : List Spot → List ℤ
spaced l = spaced_from (pos 0) 1 l

-- ---- the three steps, in this order
abbrev pub fixup : ℕ → List Spot → List ℤ
fixup line l = spaced (raised (ends_placed line l))

-- no position is below an earlier one. "Steps (a) to (c) on a list already placed in units change nothing": the law `unchanged` says so of
-- every sorted list, and `sorted` that the steps give one.
abbrev pub Sorted : List ℤ → Type 0
Sorted zs = (i j : ℕ) → i ≤ j → j < length zs → le_z (get_or zs i (pos 0)) (get_or zs j (pos 0)) ≡ true
