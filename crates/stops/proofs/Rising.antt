-- Whether no stop is below an earlier one: asked of each stop and the next, and for any two stops.
-- Assumes nothing.
use mathlib.Core.Path.{◌≡◌, refl, sym}
use mathlib.Core.Bool.{Bool, true, false, and-false, and-eq-true_iff}
use mathlib.Core.List.{List, [], ◌∷◌}
use Prim.Native.Nat.{ℕ, zero, suc, ◌+◌, ◌≤◌, ◌<◌}
use native.Mathlib.Numerals.{unary_clauses}
use native.Mathlib.Omega.{arith}
use lib.IntN.{ℤ}
use lib.ListN.{length, get_or}
use lib.Signed.{le_z}
use Rattle.std.specs.List.{AllAdjacentBelow, IsAllAdjacentAnswer}
use Rattle.stops.specs.declared.PlacedStop.{PlacedStop}
use Rattle.stops.specs.Blank.{blank_placed}
use Rattle.stops.specs.Check.{rising_from, rising}
use Rattle.stops.proofs.Order.{le_z-refl, le_z-trans}

abbrev pub place_at : List PlacedStop → ℕ → ℤ
place_at xs i = (get_or xs i blank_placed).position

-- no stop is below the one just before it
abbrev pub not-below : PlacedStop → PlacedStop → Bool
not-below x y = le_z x.position y.position

neighbours-rise : (xs : List PlacedStop) → AllAdjacentBelow (λ x y. true ≡ not-below x y) xs (length xs) → true ≡ rising xs
unfolding rising_from
neighbours-rise [] f = refl
neighbours-rise (x ∷ []) f = refl
neighbours-rise (x ∷ y ∷ xs) f = rw (← f 0 x (omega arith)) (neighbours-rise (y ∷ xs) (λ k d h. simp unary_clauses (simp unary_clauses at f (suc k) d (omega arith))))

neighbours-fall : (xs : List PlacedStop) (k : ℕ) → k + 1 < length xs → false ≡ not-below (get_or xs k blank_placed) (get_or xs (k + 1) blank_placed) → false ≡ rising xs
unfolding rising_from
neighbours-fall [] k h f = absurd (omega arith)
neighbours-fall (x ∷ []) k h f = absurd (omega arith)
neighbours-fall (x ∷ y ∷ xs) zero h f = rw (← f)
neighbours-fall (x ∷ y ∷ xs) (suc k) h f = rw (← neighbours-fall (y ∷ xs) k (omega arith) (simp unary_clauses (simp unary_clauses at f))) (sym (and-false (not-below x y)))

pub rising-neighbours : (xs : List PlacedStop) (r : Bool) → IsAllAdjacentAnswer (λ x y b. b ≡ not-below x y) xs r → r ≡ rising xs
rising-neighbours xs true f = neighbours-rise xs f
rising-neighbours xs false f = neighbours-fall xs f.0 f.1 (f.2 blank_placed)

-- no stop is below an earlier one, whichever two are taken
from_at : (z : ℤ) (xs : List PlacedStop) → rising_from z xs ≡ true → (j : ℕ) → j < length xs → le_z z (place_at xs j) ≡ true
unfolding rising_from
from_at z [] e j h = absurd (omega arith)
from_at z (x ∷ xs) e zero h = ((and-eq-true_iff _ _).0 e).0
from_at z (x ∷ xs) e (suc j) h =
    let k = (and-eq-true_iff (le_z z x.position) (rising_from x.position xs)).0 e in
    le_z-trans z x.position (place_at xs j) k.0 (from_at x.position xs k.1 j (omega arith))

tail : (x : PlacedStop) (xs : List PlacedStop) → rising (x ∷ xs) ≡ true → rising xs ≡ true
unfolding rising_from
tail x [] e = refl
tail x (y ∷ xs) e = ((and-eq-true_iff (le_z x.position y.position) (rising_from y.position xs)).0 e).1

pub rising-at : (xs : List PlacedStop) → rising xs ≡ true → (i j : ℕ) → i ≤ j → j < length xs → le_z (place_at xs i) (place_at xs j) ≡ true
rising-at [] e i j h k = absurd (omega arith)
rising-at (x ∷ xs) e zero zero h k = le_z-refl x.position
rising-at (x ∷ xs) e zero (suc j) h k = from_at x.position xs e j (omega arith)
rising-at (x ∷ xs) e (suc i) zero h k = absurd (omega arith)
rising-at (x ∷ xs) e (suc i) (suc j) h k = rising-at xs (tail x xs e) i j (omega arith) (omega arith)
