-- The last element of a list that passes a test, and the stops around a location.
-- Assumes nothing.
use mathlib.Core.Path.{◌≡◌, refl, sym, subst, ◌∙◌}
use mathlib.Core.List.{List, [], ◌∷◌}
use mathlib.Core.Bool.{Bool, true, false, cond, true≢false}
use Prim.Native.Nat.{ℕ, zero, suc, ◌-◌, ◌≤◌, ◌<◌, zero-le, suc-le-suc, ◌+◌}
use native.Mathlib.Nat.{le_of_suc-le-suc, not-suc-le-zero, suc_inj, suc-ne-zero}
use native.Mathlib.Decide.{dec_le}
use native.Mathlib.Omega.{arith}
use lib.Dec.{eqb, leb}
use lib.ListN.{length, get_or}
use borrow.Author.Tests.{eqb-false, le-leb, lt-leb}
use Rattle.color.specs.Stop.{Stop, no_stop, Location, Around, single, pair, at_or_below, placed, last_place, around_place, around}
use Rattle.color.specs.Lent.{last_up_to}

-- k is the place of the last element that passes f, or 0 where none does
pub record Last {A : Type 0} (f : A → Bool) (l : List A) (d : A) (k : ℕ) : Type 0 where
  pub within : k ≤ length l
  pub here : (i : ℕ) → k ≡ suc i → f (get_or l i d) ≡ true
  pub after : (i : ℕ) → k ≤ i → i < length l → f (get_or l i d) ≡ false

module _ {A : Type 0} (f : A → Bool) (d : A) where
  last_cons : (a : A) (l : List A) (k : ℕ) (b : Bool) → f a ≡ b → Last f l d k → Last f (a ∷ l) d (placed b k)
  last_cons a l (suc k) b e h = record {
    within = suc-le-suc h.within;
    here = λ i p. go i (suc_inj p);
    after = go';
  }
    where
      go : (i : ℕ) → suc k ≡ i → f (get_or (a ∷ l) i d) ≡ true
      go zero p = absurd (suc-ne-zero k p)
      go (suc i) p = h.here i p

      go' : (i : ℕ) → suc (suc k) ≤ i → i < length (a ∷ l) → f (get_or (a ∷ l) i d) ≡ false
      go' zero p q = absurd (not-suc-le-zero p)
      go' (suc i) p q = h.after i (le_of_suc-le-suc p) (le_of_suc-le-suc q)
  last_cons a l zero true e h = record {
    within = suc-le-suc zero-le;
    here = λ i p. subst (λ (j : ℕ). f (get_or (a ∷ l) j d) ≡ true) (suc_inj p) e;
    after = go;
  }
    where
      go : (i : ℕ) → 1 ≤ i → i < length (a ∷ l) → f (get_or (a ∷ l) i d) ≡ false
      go zero p q = absurd (not-suc-le-zero p)
      go (suc i) p q = h.after i zero-le (le_of_suc-le-suc q)
  last_cons a l zero false e h = record {
    within = zero-le;
    here = λ i p. absurd (suc-ne-zero i (sym p));
    after = go;
  }
    where
      go : (i : ℕ) → 0 ≤ i → i < length (a ∷ l) → f (get_or (a ∷ l) i d) ≡ false
      go zero p q = e
      go (suc i) p q = h.after i zero-le (le_of_suc-le-suc q)

  pub last : (l : List A) → Last f l d (last_place f l)
  unfolding last_place
  last [] = record {
    within = zero-le;
    here = λ i p. absurd (suc-ne-zero i (sym p));
    after = λ i p q. absurd (not-suc-le-zero q);
  }
  last (a ∷ l) = last_cons a l (last_place f l) (f a) refl (last l)

-- there is one such place
not-later : {A : Type 0} (f : A → Bool) (l : List A) (d : A) (k m : ℕ) → Last f l d k → Last f l d m → k < m → ⊥
not-later f l d k m h g p =
    true≢false (sym (g.here (m - 1) (omega arith)) ∙ h.after (m - 1) (omega arith) (omega (arith, g.within)))

-- the last position at or below `at` is the one before place k, if it is at or below and all from there on are above
pub last-is : (ps : List ℕ) (at k : ℕ) → k ≤ length ps → ((i : ℕ) → k ≡ suc i → get_or ps i 0 ≤ at)
    → ((i : ℕ) → k ≤ i → i < length ps → at < get_or ps i 0) → k ≡ last_up_to ps at
last-is ps at k l before after = either (dec_le k (last_up_to ps at)) (dec_le (last_up_to ps at) k)
  where
    here : Last (λ (p : ℕ). leb p at) ps 0 k
    here = record {
      within = l;
      here = λ i e. le-leb (get_or ps i 0) at (before i e);
      after = λ i m n. lt-leb (get_or ps i 0) at (after i m n);
    }

    there : Last (λ (p : ℕ). leb p at) ps 0 (last_up_to ps at)
    there = last (λ (p : ℕ). leb p at) 0 ps

    either : Dec (k ≤ last_up_to ps at) → Dec (last_up_to ps at ≤ k) → k ≡ last_up_to ps at
    either (yes p) (yes q) = omega arith
    either (no p) _ = absurd (not-later (λ (x : ℕ). leb x at) ps 0 (last_up_to ps at) k there here (omega arith))
    either (yes p) (no q) = absurd (not-later (λ (x : ℕ). leb x at) ps 0 k (last_up_to ps at) here there (omega arith))

-- the one or two stops around t: of two the first is at or below t, and the second above
pub data View (stops : List Stop) (t : Location) : Around → Type 0 where
  alone : (i : ℕ) → View stops t (single (get_or stops i no_stop))
  two : (i : ℕ) → at_or_below t (get_or stops i no_stop).position ≡ true → at_or_below t (get_or stops (suc i) no_stop).position ≡ false
      → View stops t (pair (get_or stops i no_stop) (get_or stops (suc i) no_stop))

view-at : (stops : List Stop) (t : Location) (k : ℕ) → Last (λ a. at_or_below t a.position) stops no_stop k → View stops t (around_place stops k)
view-at stops t zero h = alone 0
view-at stops t (suc i) h = go (eqb (suc i) (length stops)) refl
  where
    go : (b : Bool) → eqb (suc i) (length stops) ≡ b
        → View stops t (cond b (single (get_or stops i no_stop)) (pair (get_or stops i no_stop) (get_or stops (suc i) no_stop)))
    go true e = alone i
    go false e =
        let ne : suc i ≡ length stops → ⊥ = eqb-false (suc i) (length stops) e in
        two i (h.here i refl) (h.after (suc i) (omega arith) (omega (arith, h.within, ne)))

pub view : (stops : List Stop) (t : Location) → View stops t (around stops t)
unfolding around
view stops t = view-at stops t (last_place (λ a. at_or_below t a.position) stops) (last (λ a. at_or_below t a.position) no_stop stops)

-- the last position at or below `at`, those after it counted from the end, and none
pub last_at : (ps : List ℕ) (at i : ℕ) → i < length ps → get_or ps i 0 ≤ at
    → ((k : ℕ) → k < length ps - 1 - i → at < get_or ps (length ps - 1 - k) 0) → i + 1 ≡ last_up_to ps at
last_at ps at i l here after =
    last-is ps at (i + 1) (omega arith)
    (λ j e. let same : i ≡ j = omega arith in rw (← same) here)
    (λ j m n. let k : length ps - 1 - (length ps - 1 - j) ≡ j = omega arith in rw k at (after (length ps - 1 - j) (omega arith)))

pub none_up_to : (ps : List ℕ) (at : ℕ) → ((j : ℕ) → j < length ps → at < get_or ps j 0) → 0 ≡ last_up_to ps at
none_up_to ps at above = last-is ps at 0 zero-le (λ j e. absurd (omega (arith, e))) (λ j m n. above j n)
