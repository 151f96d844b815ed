-- After (a) and (b) the last stop is placed and no placed stop is below an earlier one, so that (c) can begin.
-- Assumes nothing.
use mathlib.Core.Path.{◌≡◌, refl}
use mathlib.Core.Bool.{Bool, true, false, cond}
use mathlib.Core.List.{List, [], ◌∷◌}
use Prim.Native.Nat.{ℕ, ◌<◌}
use native.Mathlib.Omega.{arith}
use lib.IntN.{ℤ, pos}
use lib.ListN.{length}
use lib.Signed.{le_z}
use Rattle.stops.proofs.Order.{le_z-refl}
use Rattle.placing.specs.Spot.{Spot, unplaced, at}
use Rattle.placing.specs.Fixup.{or_at, first_at, last_at, ends_placed, maxℤ, raised_from, raised, next}
use Rattle.placing.specs.Represented.{Ready}

abbrev pub IsPlaced : Spot → Type 0
IsPlaced unplaced = ⊥
IsPlaced (at p) = Unit {0}

-- the last stop is placed
abbrev pub Ended : List Spot → Type 0
Ended [] = Unit {0}
Ended (s ∷ []) = IsPlaced s
Ended (s ∷ t ∷ l) = Ended (t ∷ l)

or-placed : (z : ℤ) (s : Spot) → IsPlaced (or_at z s)
or-placed z unplaced = tt
or-placed z (at p) = tt

pub last-ended : (z : ℤ) (l : List Spot) → Ended (last_at z l)
unfolding last_at
last-ended z [] = tt
last-ended z (s ∷ []) = or-placed z s
last-ended z (s ∷ t ∷ []) = or-placed z t
last-ended z (s ∷ t ∷ u ∷ l) = last-ended z (t ∷ u ∷ l)

tail-ended : (s : Spot) (l : List Spot) → Ended (s ∷ l) → Ended l
tail-ended s [] e = tt
tail-ended s (t ∷ l) e = e

max-first : (a b : ℤ) → le_z a (maxℤ a b) ≡ true
max-first a b = go (le_z a b) refl
  where
    go : (t : Bool) → le_z a b ≡ t → le_z a (cond t b a) ≡ true
    go true e = e
    go false e = le_z-refl a

-- from A on: no placed stop is below the one before it, and the placed stop after an unplaced one is not below A
unfoldable pub Above : ℤ → List Spot → Type 0
Above A [] = Unit {0}
Above A (at p ∷ l) = (le_z A p ≡ true) × Above p l
Above A (unplaced ∷ l) = (le_z A (next l) ≡ true) × Above A l

pub above-next : (A : ℤ) (s : Spot) (l : List Spot) → Above A (s ∷ l) → le_z A (next (s ∷ l)) ≡ true
unfolding Above next
above-next A (at p) l h = h.0
above-next A unplaced l h = h.0

next-above : (g : ℤ) (l : List Spot) → 0 < length l → Ended l → le_z g (next (raised_from (at g) l)) ≡ true
unfolding next raised_from
next-above g [] n e = absurd (omega arith)
next-above g (at p ∷ l) n e = max-first g p
next-above g (unplaced ∷ []) n e = absurd e
next-above g (unplaced ∷ t ∷ l) n e = next-above g (t ∷ l) (omega arith) e

pub raised-above : (g : ℤ) (l : List Spot) → Ended l → Above g (raised_from (at g) l)
unfolding Above raised_from
raised-above g [] e = tt
raised-above g (at p ∷ l) e = (max-first g p, raised-above (maxℤ g p) l (tail-ended (at p) l e))
raised-above g (unplaced ∷ []) e = absurd e
raised-above g (unplaced ∷ t ∷ l) e = (next-above g (t ∷ l) (omega arith) e, raised-above g (t ∷ l) e)

above-ready : (A : ℤ) (l : List Spot) → Above A l → Ready A l
unfolding Above Ready
above-ready A [] h = tt
above-ready A (at p ∷ l) h = above-ready p l h.1
above-ready A (unplaced ∷ l) h = (h.0, above-ready A l h.1)

ready-raised : (g : ℤ) (l : List Spot) → Ended l → Ready g (raised_from (at g) l)
ready-raised g l e = above-ready g (raised_from (at g) l) (raised-above g l e)

first-placed : (A z w : ℤ) (l : List Spot) → Ready A (raised (last_at w (first_at z l)))
unfolding Ready raised_from first_at last_at
first-placed A z w [] = tt
first-placed A z w (unplaced ∷ []) = tt
first-placed A z w (at p ∷ []) = tt
first-placed A z w (unplaced ∷ t ∷ l) = ready-raised z (last_at w (t ∷ l)) (last-ended w (t ∷ l))
first-placed A z w (at p ∷ t ∷ l) = ready-raised p (last_at w (t ∷ l)) (last-ended w (t ∷ l))

pub ready : (line : ℕ) (l : List Spot) → Ready (pos 0) (raised (ends_placed line l))
ready line l = first-placed (pos 0) (pos 0) (pos line) l
