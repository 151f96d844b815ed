-- Laws of `each`: what f makes of each element of a list, one after the other.
-- Assumes nothing.
use mathlib.Core.Path.{◌≡◌, refl, sym}
use mathlib.Core.List.{List, [], ◌∷◌, ◌++◌, append_assoc, append-nil}
use Prim.Native.Nat.{ℕ, zero, suc, ◌+◌, ◌*◌, ◌≤◌, ◌<◌}
use native.Mathlib.Nat.{mul-zero, mul-suc, zero-add, mul-le-mul_left, le_of_lt, le_of_suc-le-suc}
use native.Mathlib.Numerals.{add-one}
use native.Mathlib.Omega.{arith}
use lib.ListN.{length, get_or, take, length-append, get_or-append}
use lib.Seq.{length-take-le, take-suc, get_or-append-add}
use Rattle.picture.specs.Picture.{patched}
use Rattle.picture.proofs.Patches.{patch-step}
use Rattle.words.specs.Word.{each}

module _ {A B : Type 0} (f : A → List B) where
  -- of two lists, one after the other
  pub each_append : (xs ys : List A) → each f (xs ++ ys) ≡ each f xs ++ each f ys
  each_append [] ys = refl
  each_append (x ∷ xs) ys = rw (each_append xs ys, append_assoc)

  -- of one element
  pub each-one : (x : A) → each f (x ∷ []) ≡ f x
  each-one x = append-nil (f x)

  -- of lists that g makes
  pub each-each : {C : Type 0} (g : C → List A) (xs : List C) → each f (each g xs) ≡ each (λ (x : C). each f (g x)) xs
  each-each g [] = refl
  each-each g (x ∷ xs) = rw (each_append, each-each g xs)

  -- of one element more
  pub each_more : (xs : List A) (i : ℕ) (d : A) → i < length xs → each f (take (i + 1) xs) ≡ each f (take i xs) ++ f (get_or xs i d)
  each_more xs i d h = rw (add-one, take-suc xs i d h, each_append, each-one)

  module _ (n : ℕ) (sized : (x : A) → length (f x) ≡ n) where
    -- n elements for each
    pub each-length : (xs : List A) → length (each f xs) ≡ n * length xs
    each-length [] = sym (mul-zero n)
    each-length (x ∷ xs) = rw (length-append, sized x, each-length xs, mul-suc) (omega arith)

    -- a turn of a loop that writes what f makes of each element, from `at` on: d stood there before the loop, b before the turn, b' after
    -- element k is written at o
    pub each_step : (xs : List A) (z : A) (d b b' : List B) (at k o : ℕ) → k < length xs → o ≡ at + n * k → at + n * length xs ≤ length d
        → b ≡ patched d at (each f (take k xs)) → b' ≡ patched b o (f (get_or xs k z)) → b' ≡ patched d at (each f (take (k + 1) xs))
    each_step xs z d b b' at k o h e r p q =
        let l : length (each f (take k xs)) ≡ n * k = rw (each-length, length-take-le k xs (le_of_lt h)) in
        let m : n * suc k ≤ n * length xs = mul-le-mul_left n h in
        let i : o + n ≤ length d = omega (arith, mul-suc n k) in
        rw (each_more xs k z h)
        (patch-step d (each f (take k xs)) (f (get_or xs k z)) b b' at o (rw l e) (rw (sized (get_or xs k z)) i) p q)

    -- element j of what f makes of element i
    pub each_at : (xs : List A) (i j : ℕ) (a : A) (d : B) → i < length xs → j < n → get_or (each f xs) (n * i + j) d ≡ get_or (f (get_or xs i a)) j d
    each_at [] i j a d h k = absurd (omega arith)
    each_at (x ∷ xs) zero j a d h k =
        let l : j < length (f x) = rw (sized x) k in
        rw (mul-zero, zero-add, get_or-append (f x) (each f xs) d j l)
    each_at (x ∷ xs) (suc i) j a d h k =
        let e : n * suc i + j ≡ length (f x) + (n * i + j) = rw (sized x, mul-suc) (omega arith) in
        rw (e, get_or-append-add, each_at xs i j a d (le_of_suc-le-suc h) k)
