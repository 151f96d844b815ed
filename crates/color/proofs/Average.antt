-- The average color of stops: its bytes lie between those of the stops, and are near it.
-- Assumes nothing.
use mathlib.Core.Path.{◌≡◌, refl, sym, ap, ap₂}
use mathlib.Core.List.{List, [], ◌∷◌}
use Prim.Native.Nat.{ℕ, suc, ◌+◌, ◌-◌, ◌*◌, ◌≤◌, ◌<◌}
use lib.ListN.{length, get_or}
use native.Mathlib.Numerals.{add-one}
use native.Mathlib.Nat.{mul-le-mul_left, mul-le-mul_right, le_refl, le-div_iff_mul-le, div-lt_iff_lt-mul}
use native.Mathlib.Omega.{arith}
use Rattle.numbers.specs.Fraction.{◌⁄◌, nearest}
use Rattle.numbers.proofs.Nearest.{nearest-half, nearest-mono}
use Rattle.color.specs.Stop.{Channel, red, green, blue, alpha, Stop, no_stop}
use Rattle.color.specs.Lent.{values_at, stops_from, stops_of, pairs_sum}
use Rattle.color.specs.Average.{equally_apart, total_length, entries_sum, average_of, least_of, greatest_of, OneColor}

-- a stop's byte from both sides
byte_low : (p b : ℕ) → b ≤ nearest (p ⁄ 255) → 510 * b ≤ 2 * p + 255
byte_low p b h = omega arith

byte_high : (p b : ℕ) → nearest (p ⁄ 255) ≤ b → 2 * p + 256 ≤ 510 * (b + 1)
byte_high p b h = omega arith

module _ (d : Stop → Stop → ℕ) (c : Channel) where
  low : (b : ℕ) (l : List Stop) → b ≤ least_of c l → 1020 * b * total_length d l ≤ 2 * entries_sum d c l + 510 * total_length d l
  unfolding least_of total_length entries_sum
  low b [] h = omega arith
  low b (a ∷ []) h = omega arith
  low b (a ∷ e ∷ l) h =
      let p : ℕ = a.value c in
      let q : ℕ = e.value c in
      let x = byte_low p b (omega arith) in
      let y = byte_low q b (omega arith) in
      let z : d a e * (510 * b + 510 * b) ≤ d a e * (2 * p + 255 + (2 * q + 255)) = mul-le-mul_left (d a e) (omega arith) in
      let r = low b (e ∷ l) (omega arith) in
      omega (arith, z, r)

  high : (b : ℕ) (l : List Stop) → greatest_of c l ≤ b → 2 * entries_sum d c l + 512 * total_length d l ≤ 1020 * (b + 1) * total_length d l
  unfolding greatest_of total_length entries_sum
  high b [] h = omega arith
  high b (a ∷ []) h = omega arith
  high b (a ∷ e ∷ l) h =
      let p : ℕ = a.value c in
      let q : ℕ = e.value c in
      let x = byte_high p b (omega arith) in
      let y = byte_high q b (omega arith) in
      let z : d a e * (2 * p + 256 + (2 * q + 256)) ≤ d a e * (510 * (b + 1) + 510 * (b + 1)) = mul-le-mul_left (d a e) (omega arith) in
      let r = high b (e ∷ l) (omega arith) in
      omega (arith, z, r)

-- no channel of a stop is above alpha
abbrev pub Below : List Stop → Type 0
Below l = (i : ℕ) (c : Channel) → (get_or l i no_stop).value c ≤ (get_or l i no_stop).value alpha

module _ (d : Stop → Stop → ℕ) where
  sum-alpha : (c : Channel) (l : List Stop) → Below l → entries_sum d c l ≤ entries_sum d alpha l
  unfolding entries_sum
  sum-alpha c [] h = le_refl 0
  sum-alpha c (a ∷ []) h = le_refl 0
  sum-alpha c (a ∷ e ∷ l) h =
      let x : d a e * (a.value c + e.value c) ≤ d a e * (a.value alpha + e.value alpha) = mul-le-mul_left (d a e) (omega (arith, h 0 c, h 1 c)) in
      omega (arith, x, sum-alpha c (e ∷ l) (λ i. h (suc i)))

  pub one-color : (l : List Stop) → 0 < total_length d l → Below l → OneColor (average_of d l) l (λ c. nearest (average_of d l c))
  one-color l some h = record {
    defined = λ c. omega arith;
    near = λ c. nearest-half (entries_sum d c l) (2 * total_length d l * 255) (omega arith);
    from-least = λ c. (le-div_iff_mul-le {k = 2 * (2 * total_length d l * 255)} (omega arith)).1 (omega (arith, low d c (least_of c l) l (le_refl (least_of c l))));
    to-greatest = λ c.
        let x = high d c (greatest_of c l) l (le_refl (greatest_of c l)) in
        let y : nearest (average_of d l c) < greatest_of c l + 1 = (div-lt_iff_lt-mul {k = 2 * (2 * total_length d l * 255)} (omega arith)).1 (omega (arith, x)) in
        omega (arith, y);
    within-alpha = λ c. nearest-mono (average_of d l c) (average_of d l alpha) (omega arith) (omega arith) (mul-le-mul_right (2 * total_length d l * 255) (sum-alpha c l h));
  }

-- ---- lent stops that are equally spaced
abbrev pub index : Channel → ℕ
index red = 0
index green = 1
index blue = 2
index alpha = 3

value-at : (vs : List ℕ) (i : ℕ) (c : Channel) → values_at vs i c ≡ get_or vs (4 * i + index c) 0
value-at vs i red = ap (λ (k : ℕ). get_or vs k 0) (omega arith)
value-at vs i green = refl
value-at vs i blue = refl
value-at vs i alpha = refl

equal-total : (i : ℕ) (ps vs : List ℕ) → total_length equally_apart (stops_from i ps vs) ≡ length ps - 1
unfolding total_length stops_from
equal-total i [] vs = refl
equal-total i (p ∷ []) vs = refl
equal-total i (p ∷ q ∷ ps) vs = omega (arith, equal-total (suc i) (q ∷ ps) vs)

equal-sum : (c : Channel) (i n : ℕ) (ps vs : List ℕ) → n ≡ length ps - 1 → entries_sum equally_apart c (stops_from i ps vs) ≡ pairs_sum vs (index c) i n
unfolding entries_sum stops_from pairs_sum
equal-sum c i n [] vs e =
    let z : n ≡ 0 = omega arith in
    rw z
equal-sum c i n (p ∷ []) vs e =
    let z : n ≡ 0 = omega arith in
    rw z
equal-sum c i n (p ∷ q ∷ ps) vs e =
    let z : n ≡ suc (length ps) = omega arith in
    let r : entries_sum equally_apart c (stops_from (suc i) (q ∷ ps) vs) ≡ pairs_sum vs (index c) (suc i) (length ps) = equal-sum c (suc i) (length ps) (q ∷ ps) vs (omega arith) in
    rw (z, add-one i) (omega (arith, value-at vs i c, value-at vs (suc i) c, r))

pub average-lent : (ps vs : List ℕ) (c : Channel)
    → nearest (pairs_sum vs (index c) 0 (length ps - 1) ⁄ (2 * (length ps - 1) * 255)) ≡ nearest (average_of equally_apart (stops_of ps vs) c)
average-lent ps vs c = ap₂ (λ (x n : ℕ). nearest (x ⁄ (2 * n * 255))) (sym (equal-sum c 0 (length ps - 1) ps vs refl)) (sym (equal-total 0 ps vs))
