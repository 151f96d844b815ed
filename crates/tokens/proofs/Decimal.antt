-- Laws of the digits of a number.
-- Assumes nothing.
use mathlib.Core.Path.{◌≡◌, refl, sym, ap, ◌∙◌}
use mathlib.Core.Bool.{Bool, true, false, cond}
use mathlib.Core.List.{List, [], ◌∷◌}
use Prim.Native.Nat.{ℕ, suc, ◌+◌, ◌-◌, ◌*◌, ◌^◌, ◌≤◌, ◌<◌, min}
use native.Mathlib.Nat.{mul-le-mul_right, pow-succ'}
use native.Mathlib.Omega.{arith}
use lib.ListN.{length, drop, get_or, drop_of_length-le}
use lib.Seq.{drop-cons}
use native.Mathlib.Numerals.{add-one}
use Rattle.std.specs.Char.{is_ascii_digit}
use Rattle.text.specs.Text.{run}
use Rattle.text.proofs.Laws.{range-bounds}
use Rattle.tokens.specs.Number.{is_digit, decimal}

pub same_digit : (b : ℕ) → is_ascii_digit b ≡ is_digit b
unfolding is_digit
same_digit b = grind arith

pub digit-end : is_digit 0 ≡ false
unfolding is_digit
digit-end = refl

pub digit-bounds : (b : ℕ) → is_digit b ≡ true → (48 ≤ b) × (b ≤ 57)
unfolding is_digit
digit-bounds b h = range-bounds "0" "9" b h

-- a number cut off at a million is no other for having been cut off before its last digits
pub decimal-cut : (l : List ℕ) (n : ℕ) → min (decimal (min n 1000000) l) 1000000 ≡ min (decimal n l) 1000000
unfolding decimal
decimal-cut [] n = omega arith
decimal-cut (b ∷ l) n =
    sym (decimal-cut l (min n 1000000 * 10 + (b - 48))) ∙ ap (λ (z : ℕ). min (decimal z l) 1000000) (omega arith) ∙ decimal-cut l (n * 10 + (b - 48))

-- the loop over digits: one more, and none more
pub digit_more : (l : List ℕ) (i v : ℕ) → i < length l
    → min (decimal (min (v * 10 + (get_or l i 0 - 48)) 1000000) (drop (i + 1) l)) 1000000 ≡ min (decimal v (drop i l)) 1000000
unfolding decimal
digit_more l i v h = rw (add-one, drop-cons l i 0 h) (decimal-cut (drop (suc i) l) (v * 10 + (get_or l i 0 - 48)))

pub digit_end : (l : List ℕ) (i v : ℕ) → length l ≤ i → v ≤ 1000000 → min (decimal v (drop i l)) 1000000 ≡ v
unfolding decimal
digit_end l i v h k = rw (drop_of_length-le l h) (omega arith)

pub ruleset decimal_laws = (digit_more, digit_end)

-- k digits write a number below 10^k
pub digits-below : (l : List ℕ) (n : ℕ) → suc (decimal n (run is_digit l)) ≤ suc n * 10 ^ length (run is_digit l)
unfolding run decimal
digits-below [] n = omega arith
digits-below (b ∷ l) n = go (is_digit b) refl (digits-below l (n * 10 + (b - 48)))
  where
    go : (t : Bool) → is_digit b ≡ t → suc (decimal (n * 10 + (b - 48)) (run is_digit l)) ≤ suc (n * 10 + (b - 48)) * 10 ^ length (run is_digit l)
        → suc (decimal n (cond t (b ∷ run is_digit l) [])) ≤ suc n * 10 ^ length (cond t (b ∷ run is_digit l) [])
    go true e h =
        let p : ℕ = 10 ^ length (run is_digit l) in
        let q : suc (n * 10 + (b - 48)) * p ≤ (suc n * 10) * p = mul-le-mul_right p (omega (arith, digit-bounds b e)) in
        rw (pow-succ' 10 (length (run is_digit l))) (omega arith)
    go false e h = omega arith
