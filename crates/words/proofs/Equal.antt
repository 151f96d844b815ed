-- Laws of `equal`: whether two lists of bytes are the same.
-- Assumes nothing.
use mathlib.Core.Path.{◌≡◌, refl, sym, ap₂}
use mathlib.Core.Bool.{true, true≢false, and-eq-true_iff}
use mathlib.Core.List.{List, [], ◌∷◌}
use Prim.Native.Nat.{ℕ}
use lib.Dec.{eqb}
use borrow.Author.Tests.{eqb-true, eq-eqb}
use lib.Pointwise.{pointwise}
use Rattle.words.specs.Word.{equal}

-- a list and itself
pub equal-refl : (a : List ℕ) → equal a a ≡ true
unfolding equal
equal-refl [] = refl
equal-refl (x ∷ a) = simp (eq-eqb x x refl) (equal-refl a)

-- lists that are the same are equal
pub equal-yes : (a b : List ℕ) → equal a b ≡ true → a ≡ b
unfolding equal
equal-yes [] [] h = refl
equal-yes [] (y ∷ b) h = absurd (true≢false (sym h))
equal-yes (x ∷ a) [] h = absurd (true≢false (sym h))
equal-yes (x ∷ a) (y ∷ b) h =
    let k = (and-eq-true_iff (eqb x y) (equal a b)).0 h in
    ap₂ ◌∷◌ (eqb-true x y k.0) (equal-yes a b k.1)

-- what the library's `==` of two slices says
pub equal_is : (a b : List ℕ) → pointwise eqb a b ≡ equal a b
unfolding equal
equal_is [] [] = refl
equal_is [] (y ∷ b) = refl
equal_is (x ∷ a) [] = refl
equal_is (x ∷ a) (y ∷ b) = rw (equal_is a b)
