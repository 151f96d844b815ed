-- The colors of repeated stops are those of the moved locations, and come again after whole periods.
-- Assumes nothing.
use mathlib.Core.Path.{◌≡◌, refl, sym, ap, ap₂, ◌∙◌}
use mathlib.Core.List.{List, ◌++◌}
use Prim.Native.Nat.{ℕ, suc, min, ◌+◌, ◌-◌, ◌*◌, ◌/◌, ◌%◌, ◌≤◌, ◌<◌}
use native.Mathlib.Nat.{mul-le-mul_right, div-mul-le_self, lt-div-mul-add, lt_of_mul-lt-mul_right}
use native.Mathlib.Omega.{arith}
use lib.IntN.{ℤ}
use lib.ListN.{length, get_or, take, drop, length-append, length-drop, get_or-append}
use lib.Seq.{get_or-take, get_or-append-add, length-take-le}
use Rattle.std.specs.Int.{IsGcd}
use Rattle.std.proofs.lemmas.Nat.Gcd.{dvd_trans, dvd_of_mod-eq-zero, mod-eq-zero_of_dvd}
use Rattle.std.proofs.Math.Nat.{div-mul_cancel, mul-div_cancel', mul-mod_right, mul-dvd-mul_right, dvd-mul_right, pos_of_dvd_of_pos}
use Rattle.numbers.specs.Biased.{bias, unbiased}
use Rattle.color.specs.Stop.{Stop, no_stop}
use Rattle.color.specs.Byte.{units, bytes, color_at}
use Rattle.color.specs.Lent.{Lent, stops_of, moved_biased}
use Rattle.color.specs.Paint.{repeated, first_of, last_of, period_of, moved_to, moved, paint_at}
use Rattle.color.proofs.Gap.{biased-units}
use Rattle.color.proofs.Lent.{stop, length-stops}
use Rattle.color.proofs.Moves.{moved-biased, moved-along, moved-again}
use Rattle.words.specs.Word.{word_bytes}
use Rattle.table.specs.Table.{packed, entry_of, entry_at, Stored}
use Rattle.table.proofs.Packing.{entry-bytes}
use Rattle.repeats.specs.Repeats.{first_in, last_in, Periodic, repeated_of, moved_in, repeated_at, Filled}

-- the first and the last position, and the period, of lent stops
module _ (ps vs : List ℕ) (h : Lent ps vs) where
  first-is : first_of (stops_of ps vs) ≡ unbiased (first_in ps)
  first-is = ap (λ (s : Stop). s.position) (stop ps vs h 0 0 h.some)

  last-is : last_of (stops_of ps vs) ≡ unbiased (last_in ps)
  last-is =
      ap (λ (n : ℕ). (get_or (stops_of ps vs) (n - 1) no_stop).position) (length-stops 0 ps vs)
      ∙ ap (λ (s : Stop). s.position) (stop ps vs h 0 (length ps - 1) (omega (arith, h.some)))

  pub period-is : first_in ps ≤ last_in ps → period_of (stops_of ps vs) ≡ last_in ps - first_in ps
  period-is l = ap₂ units first-is last-is ∙ biased-units (first_in ps) (last_in ps) bias l

module _ (ps vs : List ℕ) (h : Periodic ps vs) where
  moved-is : (at : ℕ) → moved (stops_of ps vs) (unbiased at) ≡ unbiased (moved_in ps at)
  moved-is at =
      let e : first_in ps + (last_in ps - first_in ps) ≡ last_in ps = omega (arith, h.period) in
      ap₂ (λ (F : ℤ) (p : ℕ). moved_to F p (unbiased at)) (first-is ps vs h.lent) (period-is ps vs h.lent (omega (arith, h.period)))
      ∙ moved-biased bias (first_in ps) (last_in ps - first_in ps) at (omega (arith, h.period))
      ∙ ap (λ (z : ℕ). unbiased (moved_biased (first_in ps) z at)) e

  -- the color at a location is that of the stops where it is moved to
  pub moved-color : (at m : ℕ) → m ≡ moved_in ps at → entry_of ps vs m ≡ repeated_of ps vs at
  unfolding entry_of repeated_of
  moved-color at m e = ap (λ (z : ℤ). packed (color_at (stops_of ps vs) z)) (ap unbiased e ∙ sym (moved-is at))

  pub repeated-bytes : (at : ℕ) → word_bytes (repeated_of ps vs at) ≡ bytes (paint_at (repeated (stops_of ps vs)) (unbiased at))
  repeated-bytes at =
      ap word_bytes (sym (moved-color at _ refl)) ∙ entry-bytes ps vs h.lent (moved_in ps at)
      ∙ ap (λ (z : ℤ). bytes (color_at (stops_of ps vs) z)) (sym (moved-is at))

  -- .. and so is that of another location as far away from both, in the same period
  pub along-color : (at m r u : ℕ) → m ≡ moved_in ps at → first_in ps ≤ u → u < last_in ps → m + r ≡ u + at → entry_of ps vs u ≡ repeated_of ps vs r
  along-color at m r u e lo hi d = moved-color r u (sym (moved-along (first_in ps) (last_in ps) at r u h.period lo hi (omega (arith, e))))

  -- entry j of a piece that begins with entry k, which is moved to `at`
  pub piece-entry : (first s k j at : ℕ) → at ≡ moved_in ps (first + k * s) → first_in ps ≤ at → at + j * s < last_in ps
      → entry_at ps vs at s j ≡ repeated_at ps vs first s (k + j)
  piece-entry first s k j at e lo hi = along-color (first + k * s) at (first + (k + j) * s) (at + j * s) e (omega arith) hi (omega arith)

  -- whole periods on, the colors come again
  pub color-again : (at n : ℕ) → n % (last_in ps - first_in ps) ≡ 0 → repeated_of ps vs (at + n) ≡ repeated_of ps vs at
  color-again at n e =
      sym (moved-color (at + n) _ refl) ∙ ap (entry_of ps vs) (moved-again (first_in ps) (last_in ps) at n h.period e) ∙ moved-color at _ refl

  pub entry-again : (first s q k : ℕ) → q * s % (last_in ps - first_in ps) ≡ 0 → repeated_at ps vs first s (k + q) ≡ repeated_at ps vs first s k
  entry-again first s q k e =
      let i : first + (k + q) * s ≡ first + k * s + q * s = omega arith in
      ap (repeated_of ps vs) i ∙ color-again (first + k * s) (q * s) e

-- ---- the entries of a piece that are s units apart, in d units
pub piece-some : (d s : ℕ) → 0 < s → 0 < d → 0 < (d + (s - 1)) / s
piece-some d s h k =
    let hi : d + (s - 1) < (d + (s - 1)) / s * s + s = lt-div-mul-add h in
    lt_of_mul-lt-mul_right s (omega arith)

pub piece-fits : (d s n : ℕ) → n ≤ (d + (s - 1)) / s → n * s ≤ d + (s - 1)
piece-fits d s n k =
    let lo : (d + (s - 1)) / s * s ≤ d + (s - 1) = div-mul-le_self (d + (s - 1)) s in
    let t : n * s ≤ (d + (s - 1)) / s * s = mul-le-mul_right s k in
    omega arith

pub piece-within : (d s m : ℕ) → 0 < s → m < (d + (s - 1)) / s → m * s < d
piece-within d s m h k =
    let t = piece-fits d s (suc m) k in
    omega arith

-- ---- after how many entries s units apart the colors come again, where the period is p
pub divisor-some : (p s g : ℕ) → IsGcd p s g → 0 < p → (0 < p / g) × (0 < g)
divisor-some p s g h some =
    (pos_of_dvd_of_pos (rw (div-mul_cancel g h.0) at (dvd-mul_right (p / g) g)) some, pos_of_dvd_of_pos h.0 some)

pub whole-periods : (p s g : ℕ) → IsGcd p s g → p / g * s % p ≡ 0
whole-periods p s g h =
    let a : p / g * g * (s / g) ≡ p * (s / g) = ap (λ (n : ℕ). n * (s / g)) (div-mul_cancel g h.0) in
    let b : p / g * (g * (s / g)) ≡ p / g * s = ap (λ (n : ℕ). p / g * n) (mul-div_cancel' g h.1) in
    let e : p / g * s ≡ p * (s / g) = omega arith in
    ap (λ (n : ℕ). n % p) e ∙ mul-mod_right p (s / g)

-- whole periods, some times
pub more-periods : (p s q m : ℕ) → q * s % p ≡ 0 → m % q ≡ 0 → m * s % p ≡ 0
more-periods p s q m e f =
    mod-eq-zero_of_dvd p (dvd_trans p (dvd_of_mod-eq-zero p e) (mul-dvd-mul_right q (dvd_of_mod-eq-zero q f) s))

-- a part of a list that is replaced
pub stored-part : (f : ℕ → ℕ) (a b : ℕ) (t p rest : List ℕ) → a ≤ length t → length p ≡ b → ((k : ℕ) → k < length p → get_or p k 0 ≡ f (a + k))
    → Stored f a (a + b) t (take a t ++ (p ++ rest))
stored-part f a b t p rest h o e = record {
  kept = λ k l. get_or-append (take a t) (p ++ rest) 0 k (omega (arith, n)) ∙ get_or-take a t k 0 l;
  new = λ k l m.
      let i : k ≡ length (take a t) + (k - a) = omega (arith, n) in
      let j : a + (k - a) ≡ k = omega arith in
      ap (λ (z : ℕ). get_or (take a t ++ (p ++ rest)) z 0) i ∙ get_or-append-add (take a t) (p ++ rest) (k - a) 0
      ∙ get_or-append p rest 0 (k - a) (omega arith) ∙ e (k - a) (omega arith) ∙ ap f j;
}
  where
    n : length (take a t) ≡ a
    n = length-take-le a t h

-- the lesser of two numbers
pub lesser : (a b r : ℕ) → r ≡ min a b → (r ≤ b) × ((k : ℕ) → k < a → k < b → k < r)
lesser a b r e = (omega (arith, e), λ k l m. omega (arith, e, l, m))

-- the front of a list that is replaced by as many numbers of f
pub front_length : (t p : List ℕ) (n : ℕ) → length p ≡ n → n ≤ length t → length (p ++ drop n t) ≡ length t
front_length t p n o h = length-append p (drop n t) ∙ rw (o, length-drop) (omega arith)

pub front-filled : (f : ℕ → ℕ) (t p : List ℕ) (n m : ℕ) → length p ≡ n → n ≤ length t → ((k : ℕ) → k < m → k < length t → k < n) → Filled f p
    → (k : ℕ) → k < m → k < length (p ++ drop n t) → get_or (p ++ drop n t) k 0 ≡ f k
front-filled f t p n m o h w e k l i =
    let j : k < length p = rw o (w k l (rw (front_length t p n o h) at i)) in
    get_or-append p (drop n t) 0 k j ∙ e k j
