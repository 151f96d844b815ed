-- No position is further from 0 than n, where the line length and the positions given are not.
-- Assumes nothing.
use mathlib.Core.Path.{◌≡◌, sym}
use mathlib.Core.Bool.{Bool, true, false, cond, true≢false}
use mathlib.Core.List.{List, [], ◌∷◌, map}
use Prim.Native.Nat.{ℕ, zero, suc, ◌+◌, ◌≤◌, ◌<◌}
use native.Mathlib.Omega.{arith}
use lib.IntN.{ℤ, pos, negsuc, nat_abs}
use lib.ListN.{take, get_or}
use lib.Signed.{le_z}
use borrow.Author.Tests.{leb-true}
use Rattle.numbers.specs.Biased.{bias, unbiased}
use Rattle.numbers.specs.Fraction.{distance}
use Rattle.numbers.proofs.Integers.{diff-abs}
use Rattle.placing.specs.Spot.{Spot, unplaced, at}
use Rattle.placing.specs.Fixup.{or_at, first_at, last_at, ends_placed, maxℤ, raised_to, raised_from, raised, next, run, between, spaced_from, fixup}
use Rattle.placing.specs.Represented.{Ready}
use Rattle.placing.proofs.Between.{part-from, part-to}
use Rattle.placing.proofs.Above.{ready}

abbrev pub AllWithin : ℕ → List ℤ → Type 0
AllWithin n zs = (i : ℕ) → nat_abs (get_or zs i (pos 0)) ≤ n

abbrev pub SpotWithin : ℕ → Spot → Type 0
SpotWithin n unplaced = Unit {0}
SpotWithin n (at z) = nat_abs z ≤ n

-- the same of the stops that are placed
abbrev pub SpotsWithin : ℕ → List Spot → Type 0
SpotsWithin n l = (i : ℕ) → SpotWithin n (get_or l i unplaced)

-- between two positions that are within n
squeeze : (n : ℕ) (A x B : ℤ) → le_z A x ≡ true → le_z x B ≡ true → nat_abs A ≤ n → nat_abs B ≤ n → nat_abs x ≤ n
squeeze n A (pos m) (pos b) h k p q = omega (arith, leb-true m b k)
squeeze n A (pos m) (negsuc b) h k p q = absurd (true≢false (sym k))
squeeze n (pos a) (negsuc m) B h k p q = absurd (true≢false (sym h))
squeeze n (negsuc a) (negsuc m) B h k p q = omega (arith, leb-true m a h)

max-within : (n : ℕ) (a b : ℤ) → nat_abs a ≤ n → nat_abs b ≤ n → nat_abs (maxℤ a b) ≤ n
max-within n a b p q = go (le_z a b)
  where
    go : (t : Bool) → nat_abs (cond t b a) ≤ n
    go true = q
    go false = p

module _ (n : ℕ) where
  or-within : (z : ℤ) (s : Spot) → nat_abs z ≤ n → SpotWithin n s → SpotWithin n (or_at z s)
  or-within z unplaced p h = p
  or-within z (at q) p h = h

  first-within : (z : ℤ) (l : List Spot) → nat_abs z ≤ n → SpotsWithin n l → SpotsWithin n (first_at z l)
  unfolding first_at
  first-within z [] p h i = tt
  first-within z (s ∷ l) p h zero = or-within z s p (h 0)
  first-within z (s ∷ l) p h (suc i) = h (suc i)

  last_within : (z : ℤ) (l : List Spot) → nat_abs z ≤ n → SpotsWithin n l → SpotsWithin n (last_at z l)
  unfolding last_at
  last_within z [] p h i = tt
  last_within z (s ∷ []) p h zero = or-within z s p (h 0)
  last_within z (s ∷ []) p h (suc i) = tt
  last_within z (s ∷ t ∷ l) p h zero = h 0
  last_within z (s ∷ t ∷ l) p h (suc i) = last_within z (t ∷ l) p (λ j. h (suc j)) i

  raise-within : (g : Spot) (p : ℤ) → SpotWithin n g → nat_abs p ≤ n → nat_abs (raised_to g p) ≤ n
  raise-within unplaced p h k = k
  raise-within (at g) p h k = max-within n g p h k

  raised-within : (g : Spot) (l : List Spot) → SpotWithin n g → SpotsWithin n l → SpotsWithin n (raised_from g l)
  unfolding raised_from
  raised-within g [] p h i = tt
  raised-within g (unplaced ∷ l) p h zero = tt
  raised-within g (unplaced ∷ l) p h (suc i) = raised-within g l p (λ j. h (suc j)) i
  raised-within g (at q ∷ l) p h zero = raise-within g q p (h 0)
  raised-within g (at q ∷ l) p h (suc i) = raised-within (at (raised_to g q)) l (raise-within g q p (h 0)) (λ j. h (suc j)) i

  next-within : (l : List Spot) → SpotsWithin n l → nat_abs (next l) ≤ n
  unfolding next
  next-within [] h = omega arith
  next-within (unplaced ∷ l) h = next-within l (λ j. h (suc j))
  next-within (at p ∷ l) h = h 0

  spaced-within : (A : ℤ) (m : ℕ) (l : List Spot) → nat_abs A ≤ n → Ready A l → SpotsWithin n l → AllWithin n (spaced_from A m l)
  unfolding spaced_from Ready
  spaced-within A m [] p r h i = omega arith
  spaced-within A m (at q ∷ l) p r h zero = h 0
  spaced-within A m (at q ∷ l) p r h (suc i) = spaced-within q 1 l (h 0) r (λ j. h (suc j)) i
  spaced-within A m (unplaced ∷ l) p r h zero =
      let k : ℕ = m + 1 + run l in
      squeeze n A (between A (next l) m k) (next l) (part-from A (next l) r.0 m k (omega arith)) (part-to A (next l) r.0 m k (omega arith) (omega arith)) p (next-within l (λ j. h (suc j)))
  spaced-within A m (unplaced ∷ l) p r h (suc i) = spaced-within A (m + 1) l p r.1 (λ j. h (suc j)) i

  pub within : (line : ℕ) (l : List Spot) → line ≤ n → SpotsWithin n l → AllWithin n (fixup line l)
  within line l p h =
      spaced-within (pos 0) 1 (raised (ends_placed line l)) (omega arith) (ready line l)
      (raised-within unplaced (ends_placed line l) tt (last_within (pos line) (first_at (pos 0) l) p (first-within (pos 0) l (omega arith) h)))

  -- biased, such positions are small
  pub biased-small : (k : ℕ) (us : List ℕ) → AllWithin n (map unbiased (take k us)) → (i : ℕ) → i < k → get_or us i 0 ≤ bias + n
  biased-small zero us f i h = absurd (omega arith)
  biased-small (suc k) [] f i h = omega arith
  biased-small (suc k) (u ∷ us) f zero h = let d : distance u bias ≤ n = rw (← diff-abs u bias) (f 0) in omega arith
  biased-small (suc k) (u ∷ us) f (suc i) h = biased-small k us (λ j. f (suc j)) i (omega arith)
