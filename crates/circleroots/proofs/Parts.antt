-- Lists that a loop fills part by part.
-- Assumes nothing.
use Rattle.std.proofs.Common.{◌≡◌, ℕ, ◌+◌, ◌<◌, ◌≤◌, List, length, get_or, set, refl, ◌∙◌, arith, get_or-set_other, get_or-set_same}
use native.Mathlib.Decide.{dec_le}
use Rattle.line.specs.Location.{location_by}
use Rattle.line.specs.Circle.{circle_rule}
use Rattle.line.specs.Represented.{center_in}
use Rattle.line.specs.declared.BiasedCenter.{BiasedCenter}
use Rattle.circleroots.specs.Squares.{Known, KnownBefore, KnownPart, Kept, FromOneRow, FromTwoRows, Guessable}

-- P holds of the numbers from a up to i
abbrev pub Each : (ℕ → ℕ → Type 0) → ℕ → ℕ → List ℕ → Type 0
Each P a i l = (k : ℕ) → a ≤ k → k < i → P k (get_or l k 0)

pub each_set : (P : ℕ → ℕ → Type 0) (a i : ℕ) (l : List ℕ) (b : ℕ) → i < length l → Each P a i l → P i b → Each P a (i + 1) (set l i b)
each_set P a i l b h old new k p q = either (dec_le i k)
  where
    either : Dec (i ≤ k) → P k (get_or (set l i b) k 0)
    either (yes g) = let m : k ≡ i = omega arith in rw (m, get_or-set_same l i b 0 h) new
    either (no g) = rw (get_or-set_other l i k b 0 (λ (m : k ≡ i). omega arith)) (old k p (omega arith))

pub kept-none : (a : ℕ) (l : List ℕ) → Kept a a l l
kept-none a l = record { before = λ i p. refl; after = λ i p. refl }

pub kept_set : (a i : ℕ) (o l : List ℕ) (b : ℕ) → a ≤ i → Kept a i o l → Kept a (i + 1) o (set l i b)
kept_set a i o l b h k = record {
  before = λ n p. get_or-set_other l i n b 0 (λ (m : n ≡ i). omega arith) ∙ k.before n p;
  after = λ n p. get_or-set_other l i n b 0 (λ (m : n ≡ i). omega arith) ∙ k.after n (omega arith);
}

-- two parts side by side
pub two-join : (c : BiasedCenter) (j a b d : ℕ) (last o m n : List ℕ) → a ≤ b → b ≤ d → FromTwoRows c j a b last o m → FromTwoRows c j b d last m n → FromTwoRows c j a d last o n
two-join c j a b d last o m n ab bd f g = record {
  kept = record {
    before = λ i p. g.kept.before i (omega arith) ∙ f.kept.before i p;
    after = λ i p. g.kept.after i p ∙ f.kept.after i (omega arith);
  };
  part = λ k l ek el two one i p q. either k l ek el two one i p q (dec_le b i);
}
  where
    either : (k l : ℕ) → k + 2 ≡ j → l + 1 ≡ j → KnownPart c k a d o → KnownPart c l a d last → (i : ℕ) → a ≤ i → i < d → Dec (b ≤ i) → get_or n i 0 ≡ location_by (circle_rule (center_in c)) i j
    either k l ek el two one i p q (yes h) =
        g.part k l ek el (λ u r s. f.kept.after u r ∙ two u (omega arith) s) (λ u r s. one u (omega arith) s) i h q
    either k l ek el two one i p q (no h) =
        g.kept.before i (omega arith) ∙ f.part k l ek el (λ u r s. two u r (omega arith)) (λ u r s. one u r (omega arith)) i p (omega arith)

-- the lists keep their lengths from part to part
pub still : {c : BiasedCenter} {w j : ℕ} {low : List ℕ} {p q : ℕ} → Guessable c w j low p q → (p' : ℕ) → w ≤ p' → Guessable c w j low p' q
still g p' h = record { near = g.near; some = g.some; width = g.width; height = g.height; halves = g.halves; room-before = h; room-last = g.room-last }

-- what one row gives, two rows give
pub two-of-one : (c : BiasedCenter) (j a b : ℕ) (last o n : List ℕ) → FromOneRow c j a b last o n → FromTwoRows c j a b last o n
two-of-one c j a b last o n f = record { kept = f.kept; part = λ u l eu el two one. f.part l el one }

-- a part ends within another
pub end-within : (q b w n : ℕ) → q ≤ w → q ≤ n → (b < w → n ≤ b) → q ≤ b
end-within q b w n qw qn h = either (dec_le w b)
  where
    either : Dec (w ≤ b) → q ≤ b
    either (yes l) = omega arith
    either (no l) = omega (arith, h (omega arith))

-- ---- whole rows
pub known-by-two : (c : BiasedCenter) (w j : ℕ) (last o n : List ℕ) → FromTwoRows c j 0 w last o n → KnownBefore c w 1 j last → KnownBefore c w 2 j o → Known c w j n
known-by-two c w j last o n f one two = record {
  at = λ i p. f.part two.row one.row two.next one.next (λ u r q. two.known.at u q) (λ u r q. one.known.at u q) i (omega arith) p;
}

pub known-by-one : (c : BiasedCenter) (w j : ℕ) (last o n : List ℕ) → FromOneRow c j 0 w last o n → KnownBefore c w 1 j last → Known c w j n
known-by-one c w j last o n f one = record { at = λ i p. f.part one.row one.next (λ u r q. one.known.at u q) i (omega arith) p }
