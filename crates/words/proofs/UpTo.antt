-- Laws of `up_to`: f 0, f 1, .., n of them.
-- Assumes nothing.
use mathlib.Core.Path.{◌≡◌, refl, sym, ap, ◌∙◌}
use mathlib.Core.List.{List, [], ◌∷◌, ◌++◌}
use Prim.Native.Nat.{ℕ, zero, suc, ◌+◌, ◌<◌}
use native.Mathlib.Numerals.{add-one}
use native.Mathlib.Omega.{arith}
use lib.ListN.{length, get_or, take, set}
use lib.Seq.{take-suc-set, ext_get_or}
use Rattle.words.specs.Word.{up_to}

-- there are n
pub up_to-length : {A : Type 0} (n : ℕ) (f : ℕ → A) → length (up_to n f) ≡ n
up_to-length zero f = refl
up_to-length (suc n) f = ap suc (up_to-length n (λ (i : ℕ). f (suc i)))

-- element i
pub up_to-at : {A : Type 0} (n : ℕ) (f : ℕ → A) (i : ℕ) (d : A) → i < n → get_or (up_to n f) i d ≡ f i
up_to-at zero f i d h = absurd (omega arith)
up_to-at (suc n) f zero d h = refl
up_to-at (suc n) f (suc i) d h = up_to-at n (λ (i : ℕ). f (suc i)) i d (omega arith)

-- one more at the end
pub up_to-suc : {A : Type 0} (n : ℕ) (f : ℕ → A) → up_to (suc n) f ≡ up_to n f ++ (f n ∷ [])
up_to-suc zero f = refl
up_to-suc (suc n) f = ap (λ (l : List _). f zero ∷ l) (up_to-suc n (λ (i : ℕ). f (suc i)))

-- a turn of a loop that makes a list by one store
pub made_more : {A : Type 0} (f : ℕ → A) (l : List A) (i : ℕ) (a : A) → i < length l → a ≡ f i → take i l ≡ up_to i f
    → take (i + 1) (set l i a) ≡ up_to (i + 1) f
made_more f l i a h q e = rw (add-one, take-suc-set l i a h, e, q, up_to-suc)

-- a list whose elements are f 0, f 1, ..
pub up_to-all : {A : Type 0} (n : ℕ) (f : ℕ → A) (l : List A) (d : A) → length l ≡ n → ((i : ℕ) → i < n → f i ≡ get_or l i d) → up_to n f ≡ l
up_to-all n f l d e h =
    let k : length (up_to n f) ≡ n = up_to-length n f in
    ext_get_or d (up_to n f) l (k ∙ sym e) (λ i m. let o : i < n = omega arith in up_to-at n f i d o ∙ h i o)
