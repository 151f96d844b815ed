-- `tokens::read_number` meets its contract: its parts are read with the magnitude cut off, which gives the number cut off. Assumes nothing.
use mathlib.Core.Path.{◌≡◌, sym, ap, ◌∙◌}
use mathlib.Core.Bool.{Bool}
use mathlib.Core.List.{List}
use Prim.Native.Nat.{ℕ, ◌≤◌}
use native.Mathlib.Omega.{arith}
use lib.IntN.{ℤ}
use mir.Syntax.{w32}
use mir.Val.{to_z, of_z}
use Rattle.text.specs.Text.{got, refused, ◌>>=◌, map_read}
use Rattle.text.proofs.Laws.{bind-map, bind-same, gets-is, gets-mapped}
use Rattle.tokens.specs.Number.{after_sign, is_negative, magnitude_of, unit_of, signed, number, number_of}
use Rattle.tokens.specs.Cut.{most, cut, up_to}
use Rattle.tokens.specs.declared.Unit.{Unit}
use Rattle.tokens.proofs.Cut.{cut-signed, unit-cut}
use Rattle.tokens.proofs.Signed.{signed_back}
use Rattle.tokens.proofs.read_number.Goals as goal

by_parts : (l : List ℕ) → number_of cut l ≡ (map_read up_to (magnitude_of (after_sign l)) >>= λ m k. unit_of m k >>= λ u e. got (number (signed (is_negative l) m) u) e)
unfolding number_of
by_parts l = sym (bind-map up_to _ (magnitude_of (after_sign l)) ∙ bind-same _ _ same (magnitude_of (after_sign l)))
  where
    same : (n : ℕ) (k : List ℕ)
        → (unit_of (up_to n) k >>= λ u e. got (number (signed (is_negative l) (up_to n)) u) e) ≡ (unit_of n k >>= λ u e. got (number (cut (signed (is_negative l) n)) u) e)
    same n k = rw (unit-cut n k) (bind-same _ _ (λ u e. ap (λ (z : ℤ). got (number z u) e) (sym (cut-signed (is_negative l) n))) (unit_of n k))

magnitude-small : {m : ℕ} {k : List ℕ} (l : List ℕ) → got m k ≡ map_read up_to (magnitude_of l) → m ≤ most
magnitude-small l h = gets-is (λ (m : ℕ). m ≤ most) h (gets-mapped (λ (m : ℕ). m ≤ most) up_to (λ n. omega arith) (magnitude_of l))

module _ (l m : List ℕ) (hm : m ≡ after_sign l) where
  no-magnitude : refused ≡ map_read up_to (magnitude_of m) → refused ≡ number_of cut l
  no-magnitude h = rw (by_parts l, ← hm, ← h)

  module _ {n : ℕ} {k : List ℕ} (h : got n k ≡ map_read up_to (magnitude_of m)) where
    no-unit : refused ≡ unit_of n k → refused ≡ number_of cut l
    no-unit q = rw (by_parts l, ← hm, ← h, ← q)

    all : {u : Unit} {e : List ℕ} (b : Bool) → b ≡ is_negative l → got u e ≡ unit_of n k → (z : ℤ) → z ≡ signed b n → got (number (to_z w32 (of_z w32 z)) u) e ≡ number_of cut l
    all b p q z r = rw (by_parts l, ← hm, ← h, ← q, ← p, r, signed_back b n (magnitude-small m h))

pub returns-in_err-magnitude : goal.returns-in_err-magnitude
returns-in_err-magnitude c = rw c.from_residual.ensures (no-magnitude _ _ c.read_sign-negative.ensures.rest c.in_err-magnitude.ensures)

pub returns-in_err-unit : goal.returns-in_err-unit
returns-in_err-unit c = rw c.from_residual-in_err-unit.ensures (no-unit _ _ c.read_sign-negative.ensures.rest c.in_ok-magnitude.ensures c.in_err-unit.ensures)

pub returns : goal.returns
returns c = all _ _ c.read_sign-negative.ensures.rest c.in_ok-magnitude.ensures _ c.read_sign-negative.ensures.negative c.in_ok-unit.ensures _ c.with_sign-value.ensures
