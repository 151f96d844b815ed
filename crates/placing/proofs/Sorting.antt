-- The steps give a sorted list, and leave one that is placed as it is.
-- Assumes nothing.
use mathlib.Core.Path.{◌≡◌, refl, ap, ◌∙◌, subst}
use mathlib.Core.Bool.{true}
use mathlib.Core.List.{List, [], ◌∷◌, map}
use Prim.Native.Nat.{ℕ, zero, suc, ◌+◌, ◌<◌, suc-le-suc}
use native.Mathlib.Omega.{arith}
use lib.IntN.{ℤ, pos}
use lib.ListN.{length, get_or}
use lib.Signed.{le_z}
use Rattle.stops.proofs.Order.{le_z-refl, le_z-trans}
use Rattle.placing.specs.Spot.{Spot, unplaced, at}
use Rattle.placing.specs.Fixup.{first_at, last_at, maxℤ, raised_from, raised, next, run, between, spaced_from, spaced, fixup, Sorted}
use Rattle.placing.proofs.Between.{part-from, part-more, part-all}
use Rattle.placing.proofs.Above.{Ended, last-ended, Above, above-next, raised-above}

-- ---- sorted, from each position to the next
unfoldable pub NotBelow : ℤ → List ℤ → Type 0
NotBelow a [] = Unit {0}
NotBelow a (b ∷ l) = (le_z a b ≡ true) × NotBelow b l

unfoldable pub Rising : List ℤ → Type 0
Rising [] = Unit {0}
Rising (a ∷ l) = NotBelow a l

not-below-at : (a : ℤ) (l : List ℤ) → NotBelow a l → (j : ℕ) → j < length l → le_z a (get_or l j (pos 0)) ≡ true
unfolding NotBelow
not-below-at a [] h j k = absurd (omega arith)
not-below-at a (b ∷ l) h zero k = h.0
not-below-at a (b ∷ l) h (suc j) k = le_z-trans a b (get_or l j (pos 0)) h.0 (not-below-at b l h.1 j (omega arith))

tail-rising : (a : ℤ) (l : List ℤ) → NotBelow a l → Rising l
unfolding NotBelow Rising
tail-rising a [] h = tt
tail-rising a (b ∷ l) h = h.1

rising-sorted : (l : List ℤ) → Rising l → Sorted l
unfolding Rising
rising-sorted [] h i j k n = absurd (omega arith)
rising-sorted (a ∷ l) h zero zero k n = le_z-refl a
rising-sorted (a ∷ l) h zero (suc j) k n = not-below-at a l h j (omega arith)
rising-sorted (a ∷ l) h (suc i) zero k n = absurd (omega arith)
rising-sorted (a ∷ l) h (suc i) (suc j) k n = rising-sorted l (tail-rising a l h) i j (omega arith) (omega arith)

sorted-rising : (l : List ℤ) → Sorted l → Rising l
unfolding Rising NotBelow
sorted-rising [] h = tt
sorted-rising (a ∷ []) h = tt
sorted-rising (a ∷ b ∷ l) h =
    (h 0 1 (omega arith) (omega arith), sorted-rising (b ∷ l) (λ i j k n. h (suc i) (suc j) (suc-le-suc k) (suc-le-suc n)))

-- ---- the steps give such a list

-- x is not above the position of the next stop, which is the m-th after A
Reached : ℤ → ℤ → ℕ → List Spot → Type 0
Reached x A m [] = Unit {0}
Reached x A m (s ∷ l) = le_z x (between A (next (s ∷ l)) m (m + run (s ∷ l))) ≡ true

reached-first : (p : ℤ) (l : List Spot) → Above p l → Reached p p 1 l
unfolding Reached
reached-first p [] h = tt
reached-first p (s ∷ l) h = part-from p (next (s ∷ l)) (above-next p s l h) 1 (1 + run (s ∷ l)) (omega arith)

reached-next : (A : ℤ) (m : ℕ) (l : List Spot) → le_z A (next l) ≡ true → Reached (between A (next l) m (m + 1 + run l)) A (m + 1) l
unfolding Reached
reached-next A m [] h = tt
reached-next A m (s ∷ l) h = part-more A (next (s ∷ l)) h m (m + 1 + run (s ∷ l)) (omega arith)

spaced-rising : (x A : ℤ) (m : ℕ) (l : List Spot) → 0 < m → Above A l → Reached x A m l → NotBelow x (spaced_from A m l)
unfolding Above Reached NotBelow spaced_from next run
spaced-rising x A m [] n h r = tt
spaced-rising x A m (at p ∷ l) n h r =
    let e : m + 0 ≡ m = omega arith in
    (subst (λ (z : ℤ). le_z x z ≡ true) (ap (between A p m) e ∙ part-all A p h.0 m n) r, spaced-rising p p 1 l (omega arith) h.1 (reached-first p l h.1))
spaced-rising x A m (unplaced ∷ l) n h r =
    let e : m + suc (run l) ≡ m + 1 + run l = omega arith in
    (subst (λ (k : ℕ). le_z x (between A (next l) m k) ≡ true) e r, spaced-rising (between A (next l) m (m + 1 + run l)) A (m + 1) l (omega arith) h.1 (reached-next A m l h.0))

from_first : (p : ℤ) (l : List Spot) → Ended l → Rising (spaced (raised (at p ∷ l)))
unfolding Rising spaced_from raised_from
from_first p l e =
    let h = raised-above p l e in
    spaced-rising p p 1 (raised_from (at p) l) (omega arith) h (reached-first p (raised_from (at p) l) h)

none-rising : Rising (spaced (raised []))
unfolding Rising spaced_from raised_from
none-rising = tt

ends-rising : (z w : ℤ) (l : List Spot) → Rising (spaced (raised (last_at w (first_at z l))))
unfolding first_at last_at
ends-rising z w [] = none-rising
ends-rising z w (unplaced ∷ []) = from_first z [] tt
ends-rising z w (at p ∷ []) = from_first p [] tt
ends-rising z w (unplaced ∷ t ∷ l) = from_first z (last_at w (t ∷ l)) (last-ended w (t ∷ l))
ends-rising z w (at p ∷ t ∷ l) = from_first p (last_at w (t ∷ l)) (last-ended w (t ∷ l))

pub fixup-rising : (line : ℕ) (l : List Spot) → Rising (fixup line l)
fixup-rising line l = ends-rising (pos 0) (pos line) l

pub sorted : (line : ℕ) (l : List Spot) → Sorted (fixup line l)
sorted line l = rising-sorted (fixup line l) (fixup-rising line l)

-- ---- a list that is placed already is not changed
first-same : (z : ℤ) (zs : List ℤ) → first_at z (map at zs) ≡ map at zs
unfolding first_at
first-same z [] = refl
first-same z (p ∷ zs) = refl

last-same : (z : ℤ) (zs : List ℤ) → last_at z (map at zs) ≡ map at zs
unfolding last_at
last-same z [] = refl
last-same z (p ∷ []) = refl
last-same z (p ∷ q ∷ zs) = ap (λ (l : List Spot). at p ∷ l) (last-same z (q ∷ zs))

max_of : (a b : ℤ) → le_z a b ≡ true → maxℤ a b ≡ b
max_of a b h = rw h

raised-same : (g : ℤ) (zs : List ℤ) → NotBelow g zs → raised_from (at g) (map at zs) ≡ map at zs
unfolding raised_from NotBelow
raised-same g [] h = refl
raised-same g (p ∷ zs) h =
    ap (λ (q : ℤ). at q ∷ raised_from (at q) (map at zs)) (max_of g p h.0) ∙ ap (λ (l : List Spot). at p ∷ l) (raised-same p zs h.1)

raised_all : (zs : List ℤ) → Rising zs → raised (map at zs) ≡ map at zs
unfolding raised_from Rising
raised_all [] h = refl
raised_all (p ∷ zs) h = ap (λ (l : List Spot). at p ∷ l) (raised-same p zs h)

spaced-same : (A : ℤ) (m : ℕ) (zs : List ℤ) → spaced_from A m (map at zs) ≡ zs
unfolding spaced_from
spaced-same A m [] = refl
spaced-same A m (p ∷ zs) = ap (λ (l : List ℤ). p ∷ l) (spaced-same p 1 zs)

pub unchanged : (line : ℕ) (zs : List ℤ) → Sorted zs → fixup line (map at zs) ≡ zs
unchanged line zs h =
    ap (λ (l : List Spot). spaced (raised (last_at (pos line) l))) (first-same (pos 0) zs)
    ∙ ap (λ (l : List Spot). spaced (raised l)) (last-same (pos line) zs)
    ∙ ap spaced (raised_all zs (sorted-rising zs h))
    ∙ spaced-same (pos 0) 1 zs

-- placing a placed list, on whatever line
pub placed-again : (line line' : ℕ) (l : List Spot) → fixup line' (map at (fixup line l)) ≡ fixup line l
placed-again line line' l = unchanged line' (fixup line l) (sorted line l)
