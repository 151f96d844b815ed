-- Laws of readings after white space, and of readings of a whole text. Assumes nothing.
use mathlib.Core.Path.{◌≡◌, sym}
use mathlib.Core.Bool.{Bool, true, false}
use mathlib.Core.List.{List, []}
use Prim.Native.Nat.{ℕ}
use lib.Dec.{eqb}
use lib.ListN.{length}
use Rattle.text.specs.Text.{is_nil, past, is_space, Read, got, refused, gap_of, map_read, after_gap, whole_of}
use Rattle.text.proofs.Laws.{nil-length, map-bind, map-inside, map-cond}

-- ---- a reading of a whole text l: m is what follows its first white space, k what follows what is got, and e what follows the white space
-- after that; t is what the code answers to whether nothing is left there
module _ {A : Type 0} (read : List ℕ → Read A) (l m : List ℕ) (hm : m ≡ past is_space l) where
  pub whole-refused : refused ≡ read m → refused ≡ whole_of read l
  unfolding whole_of
  whole-refused h = rw (← hm, ← h)

  module _ {a : A} {k : List ℕ} (h : got a k ≡ read m) (e : List ℕ) (he : e ≡ past is_space k) {t : Bool} (ht : t ≡ eqb (length e) 0) where
    pub whole-more : t ≡ false → refused ≡ whole_of read l
    unfolding whole_of
    whole-more n = rw (← hm, ← h, ← he, ← nil-length e, ← ht, n)

    pub whole-taken : t ≡ true → got a [] ≡ whole_of read l
    unfolding whole_of
    whole-taken n = rw (← hm, ← h, ← he, ← nil-length e, ← ht, n)

-- ---- a change of what is got, in a reading after white space and in one of a whole text
pub map-gap : {A B : Type 0} (h : A → B) (f : List ℕ → Read A) (f' : List ℕ → Read B) → ((l : List ℕ) → map_read h (f l) ≡ f' l)
    → (l : List ℕ) → map_read h (after_gap f l) ≡ after_gap f' l
map-gap h f f' e l = map-inside h _ _ (λ _ k. e k) (gap_of l)

pub whole-map : {A B : Type 0} (h : A → B) (f : List ℕ → Read A) (f' : List ℕ → Read B) → ((l : List ℕ) → f' l ≡ map_read h (f l))
    → (l : List ℕ) → whole_of f' l ≡ map_read h (whole_of f l)
unfolding whole_of
whole-map h f f' e l = rw (e (past is_space l)) (sym (map-bind h h _ _ (λ a k. map-cond h (is_nil (past is_space k)) (got a []) refused) (f (past is_space l))))
