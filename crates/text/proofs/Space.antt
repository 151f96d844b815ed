-- White space as the standard library tells it, and a text without that which it begins with. Assumes nothing.
use mathlib.Core.Path.{◌≡◌, refl, ap}
use mathlib.Core.Bool.{Bool, true, false, cond, ◌&&◌}
use mathlib.Core.List.{List, [], ◌∷◌}
use Prim.Native.Nat.{ℕ, suc, ◌-◌, ◌≤◌, ◌<◌}
use native.Mathlib.Omega.{arith}
use lib.ListN.{length, take, drop, get_or}
use Rattle.std.proofs.Math.Seq.{take-length}
use Rattle.std.proofs.lemmas.Bool.{and_parts}
use Rattle.std.specs.Char.{is_ascii_whitespace, to_ascii_lowercase}
use Rattle.text.specs.Text.{past, is_space, gap_of, got, refused, lower, peek_of, rest_of}
use Rattle.text.proofs.Laws.{past_stop, past-on, rest-less, space-end}

pub same_space : (b : ℕ) → is_ascii_whitespace b ≡ is_space b
unfolding is_space
same_space b = grind arith

pub same_lower : (b : ℕ) → to_ascii_lowercase b ≡ lower b
unfolding lower
same_lower b = grind arith

pub lower_zero : lower 0 ≡ 0
unfolding lower
lower_zero = refl

pub ruleset lower_laws = (same_lower, lower_zero)

-- a text that begins with a byte of white space, and what follows that byte: past the white space of either lies the same
pub past_space : (l : List ℕ) → 1 ≤ length l → is_space (get_or l 0 0) ≡ true → past is_space (take (length l - 1) (drop 1 l)) ≡ past is_space l
unfolding past
past_space [] h e = absurd (omega (arith, h))
past_space (b ∷ l) h e =
    let less : suc (length l) - 1 ≡ length l = omega arith in
    rw (e, less, take-length l) refl

-- the same of four bytes
pub past_four : (l : List ℕ) → 4 ≤ length l
    → (((is_space (get_or l 0 0) && is_space (get_or l 1 0)) && is_space (get_or l 2 0)) && is_space (get_or l 3 0)) ≡ true
    → past is_space (take (length l - 4) (drop 4 l)) ≡ past is_space l
unfolding past
past_four (a ∷ b ∷ c ∷ d ∷ l) h e =
    let last = and_parts ((is_space a && is_space b) && is_space c) (is_space d) e in
    let third = and_parts (is_space a && is_space b) (is_space c) last.0 in
    let front = and_parts (is_space a) (is_space b) third.0 in
    let less : suc (suc (suc (suc (length l)))) - 4 ≡ length l = omega arith in
    rw (front.0, front.1, third.1, last.1, less, take-length l) refl
past_four (a ∷ b ∷ c ∷ []) h e = absurd (omega (arith, h))
past_four (a ∷ b ∷ []) h e = absurd (omega (arith, h))
past_four (a ∷ []) h e = absurd (omega (arith, h))
past_four [] h e = absurd (omega (arith, h))

past_short : (l : List ℕ) → length (past is_space l) ≤ length l
unfolding past
past_short [] = omega arith
past_short (b ∷ l) = go (is_space b) (past_short l)
  where
    go : (t : Bool) → length (past is_space l) ≤ length l → length (cond t (past is_space l) (b ∷ l)) ≤ length (b ∷ l)
    go true h = omega arith
    go false h = omega arith

-- white space, at least one: something is passed over
module _ (l : List ℕ) where
  pub gap-some : length (past is_space l) < length l → got tt (past is_space l) ≡ gap_of l
  unfolding gap_of
  gap-some h = go (is_space (peek_of l)) refl
    where
      go : (t : Bool) → is_space (peek_of l) ≡ t → got tt (past is_space l) ≡ cond (is_space (peek_of l)) (got (tt {0}) (past is_space l)) refused
      go true e = rw e refl
      go false e = let k : length l ≡ length (past is_space l) = ap length (past_stop is_space space-end l e) in absurd (omega (arith, h, k))

  pub gap-none : length l ≤ length (past is_space l) → refused ≡ gap_of l
  unfolding gap_of
  gap-none h = go (is_space (peek_of l)) refl
    where
      go : (t : Bool) → is_space (peek_of l) ≡ t → refused ≡ cond (is_space (peek_of l)) (got (tt {0}) (past is_space l)) refused
      go true e = let k : length (past is_space (rest_of l)) ≡ length (past is_space l) = ap length (past-on is_space space-end l e) in
          absurd (omega (arith, h, k, past_short (rest_of l), rest-less is_space space-end l e))
      go false e = rw e refl

pub ruleset gap_laws = (gap-some, gap-none)
