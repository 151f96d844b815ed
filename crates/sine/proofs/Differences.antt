-- The differences of the sines, added up, give the sines again.
-- Assumes nothing.
use mathlib.Core.Path.{◌≡◌, refl, sym}
use mathlib.Core.List.{List, [], ◌∷◌}
use Prim.Native.Nat.{ℕ, zero, suc, ◌+◌, ◌-◌, ◌≤◌, ◌<◌}
use native.Mathlib.Nat.{not-suc-le-zero, le_of_suc-le-suc}
use native.Mathlib.Numerals.{add-one}
use native.Mathlib.Omega.{arith}
use lib.ListN.{length, get_or, take}
use Rattle.std.proofs.lemmas.List.{get_or-take, length-take-le}
use Rattle.sine.specs.Sines.{sines, sine_of}
use Rattle.sine.specs.Differences.{differences_of, sum_of, rebuilt_of, Rebuilt}
use Rattle.sine.proofs.Rules.{rules, entries, neighbors, parts}

-- one more number, added up
sum-next : (xs : List ℕ) (k : ℕ) → sum_of (take (suc k) xs) ≡ sum_of (take k xs) + get_or xs k 0
unfolding sum_of
sum-next [] zero = refl
sum-next [] (suc k) = refl
sum-next (x ∷ xs) zero = omega arith
sum-next (x ∷ xs) (suc k) = omega (arith, sum-next xs k)

-- each difference is that of its two neighbors
difference : (xs : List ℕ) (k : ℕ) → suc k < length xs → get_or (differences_of xs) k 0 ≡ get_or xs (suc k) 0 - get_or xs k 0
unfolding differences_of
difference [] k h = absurd (not-suc-le-zero h)
difference (a ∷ []) k h = absurd (not-suc-le-zero (le_of_suc-le-suc h))
difference (a ∷ b ∷ r) zero h = refl
difference (a ∷ b ∷ r) (suc k) h = difference (b ∷ r) k (le_of_suc-le-suc h)

count : length (differences_of sines) ≡ 360
unfolding sines differences_of
count = refl

-- the entry at k and the difference there make the next entry
sine-next : (k : ℕ) → k < 360 → sine_of (k + 1) ≡ sine_of k + get_or (differences_of sines) k 0
unfolding sine_of
sine-next k h = omega (arith, rw (← add-one k) at (difference sines k (omega (arith, entries))), rules.never-falls k h)

-- .. and a rebuilt sine and the difference the next rebuilt one, in a list l that is known to hold the differences
next-sum : {l : List ℕ} → l ≡ differences_of sines → (k : ℕ) → rebuilt_of k + get_or l k 0 ≡ rebuilt_of (k + 1)
unfolding rebuilt_of
next-sum e k = rw (e, add-one) (sym (sum-next (differences_of sines) k))

same : (k : ℕ) → k ≤ 360 → rebuilt_of k ≡ sine_of k
unfolding rebuilt_of sum_of
same zero h = sym rules.first
same (suc k) h = rw (← add-one k) (omega (arith, next-sum refl k, same k (omega arith), sine-next k h))

pub rebuilt : Rebuilt
rebuilt = record {
  count = count;
  byte = λ k h. omega (arith, sine-next k h, (neighbors k h).down);
  near = neighbors;
  same = same;
}

-- .. also in a list of the first k of them
pub next-part : {l : List ℕ} (k i d : ℕ) → l ≡ take k (differences_of sines) → i < k → d ≡ get_or l i 0 → rebuilt_of i + d ≡ rebuilt_of (i + 1)
next-part k i d e h at = rw (at, e, get_or-take k (differences_of sines) i 0 h) (next-sum refl i)

-- there are k of these
pub count-part : {l : List ℕ} (k : ℕ) → k ≤ 360 → l ≡ take k (differences_of sines) → length l ≡ k
count-part k h e = rw e (length-take-le k (differences_of sines) (omega (arith, count)))

-- no sum on the way is above what two entries may have together
pub rebuilt-small : (k : ℕ) → k ≤ 360 → rebuilt_of k ≤ 23171
rebuilt-small k h = omega (arith, same k h, (parts k h).sum)
