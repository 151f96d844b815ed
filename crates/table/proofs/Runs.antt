-- Runs of locations that have the same stops around them.
-- Assumes nothing.
use mathlib.Core.Path.{◌≡◌, refl, sym, ap, ap₂, ◌∙◌}
use mathlib.Core.List.{List, [], ◌∷◌}
use Prim.Native.Nat.{ℕ, zero, suc, ◌+◌, ◌-◌, ◌*◌, ◌/◌, ◌≤◌, ◌<◌, suc-le-suc}
use native.Mathlib.Nat.{mul-le-mul_right, lt_of_mul-lt-mul_right, div-mul-le_self, lt-div-mul-add, le_refl, le_trans, add-zero}
use native.Mathlib.Decide.{dec_le}
use native.Mathlib.Numerals.{add-one}
use native.Mathlib.Omega.{arith}
use lib.ListN.{length, get_or}
use Rattle.numbers.proofs.Integers.{same-leb}
use Rattle.color.specs.Stop.{placed, last_place}
use Rattle.color.specs.Lent.{Lent, Rising, last_up_to}
use Rattle.color.proofs.Place.{last-is}
use Rattle.color.proofs.Lent.{color-first, color-last, between, color-between}
use Rattle.walk.specs.Channels.{mix_of}
use Rattle.table.specs.Table.{packed, farthest, entry_at, walked_at, Spans, Clear, Splits, Ends, Run}
use Rattle.table.proofs.Packing.{entry-is}

-- ---- positions that rise
-- what holds of the first i numbers, and of i
pub below_more : (P : ℕ → Type 0) (i : ℕ) → ((m : ℕ) → m < i → P m) → P i → (m : ℕ) → m < i + 1 → P m
below_more P i h e m l = either (dec_le i m)
  where
    either : Dec (i ≤ m) → P m
    either (yes p) =
        let q : m ≡ i = omega arith in
        rw q e
    either (no p) = h m (omega arith)

pub rising_le : (ps : List ℕ) → Rising ps → (i n : ℕ) → i + n < length ps → get_or ps i 0 ≤ get_or ps (i + n) 0
rising_le ps r i zero h = rw add-zero (le_refl (get_or ps i 0))
rising_le ps r i (suc n) h =
    let e : i + suc n ≡ i + n + 1 = omega arith in
    rw e (le_trans (rising_le ps r i n (omega arith)) (r (i + n) (omega arith)))

module _ (ps : List ℕ) (at k : ℕ) (r : Rising ps) (s : Splits ps at k) where
  later : (i : ℕ) → k ≤ i → i < length ps → get_or ps k 0 ≤ get_or ps i 0
  later i l h =
      let e : k + (i - k) ≡ i = omega arith in
      rw e at (rising_le ps r k (i - k) (omega arith))

  pub splits_last : k ≡ last_up_to ps at
  splits_last = last-is ps at k s.within (λ i e. s.below i (omega arith)) (λ i l h. omega (arith, later i l h, s.above (omega arith)))

  pub splits-clear : (limit b : ℕ) → Ends ps k limit b → Clear (length ps) ps at b
  splits-clear limit b e i h l = either (dec_le k i)
    where
      either : Dec (k ≤ i) → b ≤ get_or ps i 0
      either (yes m) = omega (arith, later i m h, e.before (omega arith))
      either (no m) = absurd (omega (arith, s.below i (omega arith)))

-- the entries from k up to the first at or above r
pub run_is : (ps : List ℕ) (first s k n r b : ℕ) → 0 < s → n < 262144 → first + n * s ≤ farthest → first + k * s < r → r ≤ first + n * s
    → Clear (length ps) ps (first + k * s) r → b ≡ (r - first + (s - 1)) / s → Run ps first s k b n
run_is ps first s k n r b pos few range some within clear e =
    let d : ℕ = r - first + (s - 1) in
    let lo : d / s * s ≤ d = div-mul-le_self d s in
    let hi : d < d / s * s + s = lt-div-mul-add pos in
    let e₀ : b * s ≡ d / s * s = ap (λ (z : ℕ). z * s) e in
    let l₁ : k < b = lt_of_mul-lt-mul_right s (omega arith) in
    let c : b ≡ b - 1 + 1 = omega arith in
    let m : b * s ≡ (b - 1 + 1) * s = ap (λ (z : ℕ). z * s) c in
    let l₂ : b - 1 < n = lt_of_mul-lt-mul_right s (omega arith) in
    let e₂ : first + (b - 1) * s + 1 ≤ r = omega arith in
    record { some = l₁; within = omega arith; few = few; range = range; clear = λ i h l. le_trans e₂ (clear i h l) }

-- a run's first location
pub run-low : (ps : List ℕ) (first s a b n : ℕ) → Run ps first s a b n → first + a * s ≤ farthest
run-low ps first s a b n r =
    let m : a * s ≤ n * s = mul-le-mul_right s (omega (arith, r.some, r.within)) in
    omega (arith, r.range)

-- where no position lies between, the last one at or below is the same
pub last-clear : (ps : List ℕ) (a b s : ℕ) → Clear (length ps) ps a b → a ≤ s → s < b → last_up_to ps s ≡ last_up_to ps a
unfolding last_place
last-clear [] a b s c l m = refl
last-clear (p ∷ ps) a b s c l m =
    ap₂ placed (same-leb p a p s (λ h. omega arith) (λ h. omega (arith, c 0 (omega arith) h))) (last-clear ps a b s (λ i h. c (suc i) (suc-le-suc h)) l m)

module _ (ps vs : List ℕ) (h : Lent ps vs) (first s a b n : ℕ) (r : Run ps first s a b n) where
  same : (k : ℕ) → a ≤ k → k < b → last_up_to ps (first + a * s) ≡ last_up_to ps (first + k * s)
  same k l m =
      let m₁ : a * s ≤ k * s = mul-le-mul_right s l in
      let m₂ : k * s ≤ (b - 1) * s = mul-le-mul_right s (omega arith) in
      sym (last-clear ps (first + a * s) (first + (b - 1) * s + 1) (first + k * s) r.clear (omega arith) (omega arith))

  -- before the first stop, and from the last one on, every entry is the first
  pub flat-first : 0 ≡ last_up_to ps (first + a * s) → (k : ℕ) → a ≤ k → k < b → entry_at ps vs first s a ≡ entry_at ps vs first s k
  flat-first e k l m =
      sym (entry-is ps vs h _ (first + a * s) (color-first ps vs h (first + a * s) e))
      ∙ entry-is ps vs h _ (first + k * s) (color-first ps vs h (first + k * s) (e ∙ same k l m))

  pub flat-last : (i : ℕ) → suc i ≡ last_up_to ps (first + a * s) → suc i ≡ length ps → (k : ℕ) → a ≤ k → k < b
      → entry_at ps vs first s a ≡ entry_at ps vs first s k
  flat-last i e z k l m =
      sym (entry-is ps vs h _ (first + a * s) (color-last ps vs h (first + a * s) i e z))
      ∙ entry-is ps vs h _ (first + k * s) (color-last ps vs h (first + k * s) i (e ∙ same k l m) z)

  -- between stop i and the next
  module _ (i : ℕ) (e : i + 1 ≡ last_up_to ps (first + a * s)) (z : i + 1 < length ps) where
    at-stop : suc i ≡ last_up_to ps (first + a * s)
    at-stop = sym (add-one i) ∙ e

    not_last : suc i ≡ length ps → ⊥
    not_last p = omega arith

    pub edges : (get_or ps i 0 ≤ first + a * s) × (first + (b - 1) * s + 1 ≤ get_or ps (i + 1) 0)
    edges =
        let w = between ps vs h (first + a * s) i at-stop not_last in
        (w.below, r.clear (i + 1) z w.above)

    pub spans : Spans (get_or ps (i + 1) 0 - get_or ps i 0) s (first + a * s - get_or ps i 0) a b
    spans =
        let c : b - 1 - a + a ≡ b - 1 = omega (arith, r.some) in
        let m : (b - 1 - a + a) * s ≡ (b - 1) * s = ap (λ (k : ℕ). k * s) c in
        record { few = omega (arith, r.within, r.few); within = omega (arith, edges) }

    -- every entry is a mix
    pub walked-entry : (k : ℕ) → a ≤ k → k < b
        → walked_at vs i (get_or ps (i + 1) 0 - get_or ps i 0) s (first + a * s - get_or ps i 0) a k ≡ entry_at ps vs first s k
    unfolding walked_at
    walked-entry k l m =
        let at : ℕ = first + k * s in
        let x : ℕ = first + a * s - get_or ps i 0 + (k - a) * s in
        let c : k - a + a ≡ k = omega arith in
        let o : (k - a + a) * s ≡ k * s = ap (λ (j : ℕ). j * s) c in
        let ex : x ≡ at - get_or ps i 0 = omega (arith, edges) in
        let ey : get_or ps (i + 1) 0 - get_or ps i 0 - x ≡ get_or ps (i + 1) 0 - at = omega (arith, edges) in
        ap₂ (λ (u v : ℕ). packed (mix_of vs i u v)) ex ey ∙ entry-is ps vs h _ (first + k * s) (color-between ps vs h at i (at-stop ∙ same k l m) not_last)
