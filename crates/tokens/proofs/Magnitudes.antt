-- Laws of a number's digits with and without a point, and of its unit.
-- Assumes nothing.
use mathlib.Core.Path.{◌≡◌, refl, sym, ap, ◌∙◌}
use mathlib.Core.Bool.{Bool, true, false, cond, ◌&&◌}
use mathlib.Core.List.{List, [], ◌∷◌}
use Prim.Native.Nat.{ℕ, ◌+◌, ◌-◌, ◌*◌, ◌^◌, ◌≤◌, min}
use native.Mathlib.Nat.{mul-le-mul, pow-le-pow_right}
use native.Mathlib.Omega.{arith}
use lib.Dec.{leb, eqb}
use lib.ListN.{length}
use borrow.Author.Tests.{leb-true, eqb-true, eq-eqb, ne_eqb}
use Rattle.text.specs.Text.{peek_of, rest_of, run, past, got, refused, map_read, lower, keyword_of}
use Rattle.text.proofs.Laws.{nil-length, got-refused}
use Rattle.tokens.specs.Number.{is_digit, decimal, thousandths, fraction_of, magnitude_of}
use Rattle.tokens.specs.Cut.{up_to}
use Rattle.text.specs.View.{SplitsRun}
use Rattle.tokens.proofs.Decimal.{digits-below}

-- up to three digits write a number below a thousand
few-small : (l : List ℕ) → length (run is_digit l) ≤ 3 → decimal 0 (run is_digit l) ≤ 1000
few-small l h = omega (arith, digits-below l 0, pow-le-pow_right {n = 10} (omega arith) {i = length (run is_digit l)} {j = 3} h)

pub fraction-small : {f : ℕ} {e : List ℕ} (l : List ℕ) → got f e ≡ fraction_of l → f ≤ 1000000
unfolding fraction_of thousandths
fraction-small {f} {e} l h = go (leb 1 n) (leb n 3) refl h
  where
    n : ℕ
    n = length (run is_digit l)

    go : (t u : Bool) → leb n 3 ≡ u → got f e ≡ cond (t && u) (got (decimal 0 (run is_digit l) * 10 ^ (3 - n)) (past is_digit l)) refused → f ≤ 1000000
    go true true p q =
        let m : f ≡ decimal 0 (run is_digit l) * 10 ^ (3 - n) = cc in
        omega (arith, mul-le-mul (few-small l (leb-true n 3 p)) (pow-le-pow_right {n = 10} (omega arith) {i = 3 - n} {j = 3} (omega arith)))
    go true false p q = let w : ◌≡◌ {A = ℕ} 0 1 = cc in omega arith
    go false u p q = let w : ◌≡◌ {A = ℕ} 0 1 = cc in omega arith

-- a point is its own small letter, and no other byte's
point_only : (b : ℕ) → eqb (lower b) 46 ≡ eqb b 46
unfolding lower
point_only b = grind arith

point_word : (l : List ℕ) → keyword_of (46 ∷ []) l ≡ cond (eqb (peek_of l) 46) (got (tt {0}) (rest_of l)) refused
unfolding keyword_of
point_word l = rw (point_only (peek_of l))

point-got : {m : List ℕ} (l : List ℕ) → got tt m ≡ keyword_of (46 ∷ []) l → (peek_of l ≡ 46) × (m ≡ rest_of l)
point-got {m} l h = go (eqb (peek_of l) 46) refl (h ∙ point_word l)
  where
    go : (t : Bool) → eqb (peek_of l) 46 ≡ t → got tt m ≡ cond t (got (tt {0}) (rest_of l)) refused → (peek_of l ≡ 46) × (m ≡ rest_of l)
    go true e q = (eqb-true _ _ e, cc)
    go false e q = absurd (got-refused q)

point-not : (l : List ℕ) → refused ≡ keyword_of (46 ∷ []) l → peek_of l ≡ 46 → ⊥
point-not l h e = let k : refused ≡ got (tt {0}) (rest_of l) = h ∙ point_word l ∙ ap (λ (t : Bool). cond t (got (tt {0}) (rest_of l)) refused) (eq-eqb (peek_of l) 46 e) in got-refused (sym k)

-- d are the digits at the front of l, rest follows them, and v is the number that they write, cut off at a million
module _ {l d rest : List ℕ} (h : SplitsRun is_digit l d rest) {v : ℕ} (hv : v ≡ min (decimal 0 d) 1000000) where
  few-exact : length d ≤ 3 → decimal 0 (run is_digit l) ≡ v
  few-exact k = let w = rw h.run at hv in omega (arith, few-small l (rw (← h.run) k), w)

  pub tenths : length d ≡ 1 → got (v * 100) rest ≡ fraction_of l
  unfolding fraction_of thousandths
  tenths k = rw (few-exact (omega arith), ← h.run, k, h.past)

  pub hundredths : length d ≡ 2 → got (v * 10) rest ≡ fraction_of l
  unfolding fraction_of thousandths
  hundredths k = rw (few-exact (omega arith), ← h.run, k, h.past)

  pub all_three : length d ≡ 3 → got v rest ≡ fraction_of l
  unfolding fraction_of thousandths
  all_three k = rw (few-exact (omega arith), ← h.run, k, h.past) (ap (λ (z : ℕ). got z (past is_digit l)) (omega arith))

  pub no_fraction : (length d ≡ 1 → ⊥) → (length d ≡ 2 → ⊥) → (length d ≡ 3 → ⊥) → refused ≡ fraction_of l
  unfolding fraction_of thousandths
  no_fraction x y z = rw (← h.run) (go (leb 1 (length d)) (leb (length d) 3) refl refl)
    where
      go : (t u : Bool) → leb 1 (length d) ≡ t → leb (length d) 3 ≡ u
          → refused ≡ cond (t && u) (got (decimal 0 d * 10 ^ (3 - length d)) (past is_digit l)) refused
      go false u p q = refl
      go true false p q = refl
      go true true p q = absurd (omega (arith, leb-true 1 (length d) p, leb-true (length d) 3 q))

  -- a point follows them, and m follows the point
  module _ {m : List ℕ} (after : got tt m ≡ keyword_of (46 ∷ []) rest) where
    pub point-refused : refused ≡ fraction_of m → refused ≡ map_read up_to (magnitude_of l)
    unfolding magnitude_of
    point-refused k = rw (← h.past, eq-eqb (peek_of rest) 46 (point-got rest after).0, ← (point-got rest after).1, ← k)

    pub point : {f x : ℕ} {k : List ℕ} → got f k ≡ fraction_of m → x ≡ up_to (v * 1000 + f) → got x k ≡ map_read up_to (magnitude_of l)
    unfolding magnitude_of
    point {f} {x} {k} q r = rw (← h.past, eq-eqb (peek_of rest) 46 (point-got rest after).0, ← (point-got rest after).1, ← q) (ap (λ (z : ℕ). got z k) (let w = rw h.run at hv in omega (arith, w)))

  -- no point follows them
  module _ (none : refused ≡ keyword_of (46 ∷ []) rest) where
    pub no-digits : eqb (length d) 0 ≡ true → refused ≡ map_read up_to (magnitude_of l)
    unfolding magnitude_of
    no-digits k = rw (← h.past, ne_eqb (peek_of rest) 46 (point-not rest none), ← nil-length (run is_digit l), ← h.run, k)

    pub whole : eqb (length d) 0 ≡ false → got (v * 1000) rest ≡ map_read up_to (magnitude_of l)
    unfolding magnitude_of
    whole k =
        rw (← h.past, ne_eqb (peek_of rest) 46 (point-not rest none), ← nil-length (run is_digit l), ← h.run, k)
        (ap (λ (z : ℕ). got z rest) (omega (arith, hv)))
