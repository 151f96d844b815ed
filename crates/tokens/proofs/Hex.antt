-- Laws of hex digits.
-- Assumes nothing.
use mathlib.Core.Path.{◌≡◌, refl, ap, ◌∙◌}
use mathlib.Core.Bool.{Bool, true, false, cond}
use mathlib.Core.List.{List, [], ◌∷◌}
use Prim.Native.Nat.{ℕ, zero, suc, ◌+◌, ◌-◌, ◌≤◌, ◌<◌}
use native.Mathlib.Omega.{arith}
use lib.Dec.{eqb}
use lib.ListN.{length, get_or}
use borrow.Author.Tests.{eqb-true}
use Rattle.std.specs.Char.{is_ascii_hexdigit}
use Rattle.text.specs.Text.{in_range, run, Read, got, refused}
use Rattle.text.specs.View.{SplitsRun}
use Rattle.text.proofs.Laws.{range-bounds, below-range}
use Rattle.gradient.specs.declared.Color.{Color}
use Rattle.tokens.specs.Color.{is_hex, hex_value, digit, short, long, of_channels, hex_color, hex_of}

-- ---- the standard library's test of a byte
pub same_hex : (b : ℕ) → is_ascii_hexdigit b ≡ is_hex b
unfolding is_hex
same_hex b = grind arith

pub hex-below : (b : ℕ) → b < 48 → false ≡ is_hex b
unfolding is_hex
hex-below b k = rw (below-range "0" "9" b k, below-range "A" "F" b (omega arith), below-range "a" "f" b (omega arith))

-- ---- every byte's value is below 16
pub hex-at-most : (b : ℕ) → hex_value b ≤ 15
unfolding hex_value
hex-at-most b = go (in_range "0" "9" b) (in_range "A" "F" b) (in_range "a" "f" b) refl refl refl
  where
    go : (x y z : Bool) → in_range "0" "9" b ≡ x → in_range "A" "F" b ≡ y → in_range "a" "f" b ≡ z → cond x (b - 48) (cond y (b - 65 + 10) (cond z (b - 97 + 10) 0)) ≤ 15
    go true y z p q r = omega (arith, (range-bounds "0" "9" b p).1)
    go false true z p q r = omega (arith, (range-bounds "A" "F" b q).1)
    go false false true p q r = omega (arith, (range-bounds "a" "f" b r).1)
    go false false false p q r = omega arith

pub ruleset hex_laws = (hex-at-most)

pub hex-small : {d : ℕ} (b : ℕ) → d ≡ hex_value b → d ≤ 15
hex-small b e = omega (arith, hex-at-most b)

pub hex-end : is_hex 0 ≡ false
unfolding is_hex
hex-end = refl

-- ---- the color of hex digits: d are those at the front of l, and rest follows them
run_digit : (p : ℕ → Bool) (l : List ℕ) (i : ℕ) → i < length (run p l) → get_or (run p l) i 0 ≡ get_or l i 0
unfolding run
run_digit p [] i h = refl
run_digit p (b ∷ l) i h = go (p b) i h (λ j. run_digit p l j)
  where
    go : (t : Bool) (i : ℕ) → i < length (cond t (b ∷ run p l) []) → ((j : ℕ) → j < length (run p l) → get_or (run p l) j 0 ≡ get_or l j 0)
        → get_or (cond t (b ∷ run p l) []) i 0 ≡ get_or (b ∷ l) i 0
    go true zero h f = refl
    go true (suc i) h f = f i (omega arith)
    go false i h f = absurd (omega arith)

-- the same reading before another rest
abbrev before : {A : Type 0} → List ℕ → Read A → Read A
before m (got a k) = got a m
before m refused = refused

moved : (n : ℕ) (l k m : List ℕ) → before m (hex_color n l k) ≡ hex_color n l m
unfolding hex_color
moved n l k m = go (eqb n 3) (eqb n 4) (eqb n 6) (eqb n 8) _ _ _ _
  where
    go : (x y z w : Bool) (a b c d : Color) → before m (cond x (got a k) (cond y (got b k) (cond z (got c k) (cond w (got d k) refused))))
        ≡ cond x (got a m) (cond y (got b m) (cond z (got c m) (cond w (got d m) refused)))
    go true y z w a b c d = refl
    go false true z w a b c d = refl
    go false false true w a b c d = refl
    go false false false true a b c d = refl
    go false false false false a b c d = refl

module _ {l d rest : List ℕ} (h : SplitsRun is_hex l d rest) where
  same : (i : ℕ) → i < length d → digit d i ≡ digit l i
  same i k = ap hex_value (rw h.run (run_digit is_hex l i (rw (← h.run) k)))

  same_color : (n : ℕ) → n ≡ length d → hex_color n d rest ≡ hex_color n l rest
  unfolding hex_color
  same_color n e = go (eqb n 3) (eqb n 4) (eqb n 6) (eqb n 8) refl refl refl refl
    where
      go : (x y z w : Bool) → eqb n 3 ≡ x → eqb n 4 ≡ y → eqb n 6 ≡ z → eqb n 8 ≡ w →
          cond x (got (of_channels (short d) 255) rest) (cond y (got (of_channels (short d) (short d 3)) rest) (cond z (got (of_channels (long d) 255) rest) (cond w (got (of_channels (long d) (long d 3)) rest) refused)))
          ≡ cond x (got (of_channels (short l) 255) rest) (cond y (got (of_channels (short l) (short l 3)) rest) (cond z (got (of_channels (long l) 255) rest) (cond w (got (of_channels (long l) (long l 3)) rest) refused)))
      go true y z w p q r s = let k = eqb-true n 3 p in rw (same 0 (omega arith), same 1 (omega arith), same 2 (omega arith))
      go false true z w p q r s = let k = eqb-true n 4 q in rw (same 0 (omega arith), same 1 (omega arith), same 2 (omega arith), same 3 (omega arith))
      go false false true w p q r s =
          let k = eqb-true n 6 r in rw (same 0 (omega arith), same 1 (omega arith), same 2 (omega arith), same 3 (omega arith), same 4 (omega arith), same 5 (omega arith))
      go false false false true p q r s =
          let k = eqb-true n 8 s in
          rw (same 0 (omega arith), same 1 (omega arith), same 2 (omega arith), same 3 (omega arith), same 4 (omega arith), same 5 (omega arith), same 6 (omega arith), same 7 (omega arith))
      go false false false false p q r s = refl

  pub hex-got : {v : Color} → got v [] ≡ hex_color (length d) d [] → got v rest ≡ hex_of l
  unfolding hex_of
  hex-got {v} q = rw (← h.run, ← h.past) (ap (before rest) q ∙ moved (length d) d [] rest ∙ same_color (length d) refl)

  pub hex-not : refused ≡ hex_color (length d) d [] → refused ≡ hex_of l
  unfolding hex_of
  hex-not q = rw (← h.run, ← h.past) (ap (before rest) q ∙ moved (length d) d [] rest ∙ same_color (length d) refl)
