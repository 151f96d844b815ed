-- Whether a test holds of every element of a list, index by index, and what the elements of an array are that a closure makes.
-- Assumes nothing.
use mathlib.Core.Path.{◌≡◌, refl, sym, subst, ◌∙◌}
use mathlib.Core.Bool.{Bool, true, and-eq-true_iff}
use mathlib.Core.List.{List, [], ◌∷◌, map}
use Prim.Native.Nat.{ℕ, zero, suc, ◌+◌, ◌≤◌, ◌<◌}
use native.Mathlib.Decide.{dec_lt}
use native.Mathlib.Omega.{arith}
use lib.ListN.{length, get_or, take, replicate, length-map}
use denote.Param.Members.{Mut, Called}
use Rattle.std.specs.List.{list_all}
use Rattle.std.specs.Array.{IsFromFnResult, IsFromFnResultFrom}
use Rattle.gradient.specs.Lists.{all}

module _ {A : Type 0} (p : A → Bool) where
  pub all-at : (xs : List A) → all p xs ≡ true → (i : ℕ) (d : A) → i < length xs → p (get_or xs i d) ≡ true
  all-at [] e i d h = absurd (omega arith)
  all-at (x ∷ xs) e zero d h = ((and-eq-true_iff (p x) (all p xs)).0 e).0
  all-at (x ∷ xs) e (suc i) d h = all-at xs ((and-eq-true_iff (p x) (all p xs)).0 e).1 i d (omega arith)

  pub all_from : (xs : List A) (d : A) → ((i : ℕ) → i < length xs → p (get_or xs i d) ≡ true) → all p xs ≡ true
  all_from [] d f = refl
  all_from (x ∷ xs) d f =
      (and-eq-true_iff (p x) (all p xs)).1 (f 0 (omega arith), all_from xs d (λ i h. f (suc i) (omega arith)))

  -- an element among the first n, or d past the end of the list
  pub all_first : (d : A) → p d ≡ true → (n : ℕ) (xs : List A) → all p (take n xs) ≡ true → (i : ℕ) → i < n → p (get_or xs i d) ≡ true
  all_first d t zero xs e i h = absurd (omega arith)
  all_first d t (suc n) [] e i h = t
  all_first d t (suc n) (x ∷ xs) e zero h = ((and-eq-true_iff (p x) (all p (take n xs))).0 e).0
  all_first d t (suc n) (x ∷ xs) e (suc i) h = all_first d t n xs ((and-eq-true_iff (p x) (all p (take n xs))).0 e).1 i (omega arith)

  pub all-copies : (d : A) → p d ≡ true → (n : ℕ) → all p (replicate n d) ≡ true
  all-copies d t zero = refl
  all-copies d t (suc n) = (and-eq-true_iff (p d) (all p (replicate n d))).1 (t, all-copies d t n)

  -- the library's word for it
  pub all-listed : (xs : List A) → list_all p xs ≡ all p xs
  all-listed [] = refl
  all-listed (x ∷ xs) = rw (all-listed xs)

-- the length of a field that is an array of structs, for `search`
pub unmapped : (A B : Type 0) (f : A → B) (xs : List A) (n : ℕ) → length (map f xs) ≡ n → length xs ≡ n
unmapped A B f xs n e = sym (length-map xs f) ∙ e

-- an array that a closure makes, which answers h i for element i and stays the same
module _ {F B : Type 0} (g : Mut F (ℕ × Unit {0}) B) (f : F) (h : ℕ → B) (k : (i : ℕ) (y : B) (q : F) → Called g f (i, tt) y q → (q ≡ f) × (y ≡ h i)) where
  made-from : (ys : List B) (j n : ℕ) → IsFromFnResultFrom g f ys j n → (i : ℕ) (d : B) → j ≤ i → i < j + n → h i ≡ get_or ys i d
  made-from ys j zero r i d l m = absurd (omega arith)
  made-from ys j (suc n) (q, y, e, a, r) i d l m =
      let c = k j y q a in
      go c.1 (λ (o : j < i). made-from ys (j + 1) n (subst (λ (x : F). IsFromFnResultFrom g x ys (j + 1) n) c.0 r) i d (omega arith) (omega arith)) (dec_lt j i)
    where
      go : y ≡ h j → (j < i → h i ≡ get_or ys i d) → Dec (j < i) → h i ≡ get_or ys i d
      go c f (yes o) = f o
      go c f (no o) = let s : i ≡ j = omega arith in rw s (sym (e.1 d ∙ c))

  pub made-at : (ys : List B) (n : ℕ) → IsFromFnResult g f ys n → (d : B) (i : ℕ) → i < n → h i ≡ get_or ys i d
  made-at ys n r d i l = made-from ys 0 n r.each i d (omega arith) (omega arith)
