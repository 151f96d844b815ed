-- A text without white space at its end. Assumes nothing.
use mathlib.Core.Path.{◌≡◌, sym, ap, ◌∙◌}
use mathlib.Core.Bool.{true}
use mathlib.Core.List.{List}
use Prim.Native.Nat.{ℕ, ◌-◌, ◌≤◌, ◌<◌}
use native.Mathlib.Omega.{arith}
use lib.ListN.{length, take, get_or}
use Rattle.std.proofs.lemmas.List.{get_or-take, take-take, length-take-le}
use Rattle.std.proofs.lemmas.Bool.{cases_eq, cases_lt}
use Rattle.std.proofs.Common.{inl, inr}
use Rattle.std.specs.Char.{is_ascii_whitespace}
use Rattle.std.specs.Str.{IsTrimAsciiEnd, IsAsciiWhitespaceFrom}
use Rattle.text.specs.Text.{is_space}
use Rattle.text.proofs.Space.{same_space}

-- the text s with white space alone from its place n on
module _ (s : List ℕ) (n : ℕ) (within : n ≤ length s) (from : IsAsciiWhitespaceFrom s n) where
  trims-front : (r : List ℕ) → IsTrimAsciiEnd (take n s) r → IsTrimAsciiEnd s r
  trims-front r (m, e, len, below, white, stops) =
      let k : length (take n s) ≡ n = length-take-le n s within in
      let at : (i : ℕ) → i < n → get_or (take n s) i 0 ≡ get_or s i 0 = λ i p. get_or-take n s i 0 p in
      let front : m ≤ n = rw k at below in (
        m,
        e ∙ take-take m n s front,
        len,
        omega (arith, front, within),
        (λ i p q. elim (cases_lt i n) [
          | inl before ↦ ap is_ascii_whitespace (sym (at i before)) ∙ white i p (rw k before)
          | inr after ↦ from i after q
        ]),
        λ p. ap is_ascii_whitespace (sym (at (m - 1) (omega (arith, front, p)))) ∙ stops p,
      )

-- the last four bytes of the text s are white space
pub trims-four : (s : List ℕ) → 4 ≤ length s → is_space (get_or s (length s - 4) 0) ≡ true → is_space (get_or s (length s - 3) 0) ≡ true
    → is_space (get_or s (length s - 2) 0) ≡ true → is_space (get_or s (length s - 1) 0) ≡ true
    → (r : List ℕ) → IsTrimAsciiEnd (take (length s - 4) s) r → IsTrimAsciiEnd s r
trims-four s h a b c d = trims-front s (length s - 4) (omega arith) (λ i p q. same_space _ ∙ four i p q)
  where
    four : (i : ℕ) → length s - 4 ≤ i → i < length s → is_space (get_or s i 0) ≡ true
    four i p q = elim (cases_eq i (length s - 4)) [
      | inl e ↦ rw e a
      | inr e ↦ elim (cases_eq i (length s - 3)) [
        | inl f ↦ rw f b
        | inr f ↦ elim (cases_eq i (length s - 2)) [
          | inl g ↦ rw g c
          | inr g ↦ let l : i ≡ length s - 1 = omega (arith, p, q, e, f, g) in rw l d
        ]
      ]
    ]
