-- The color at a location of lent stops, by where the location lies among them.
-- Assumes nothing.
use mathlib.Core.Path.{◌≡◌, refl, sym, ap, ap₂, ◌∙◌, subst, fun_ext}
use mathlib.Core.List.{List, [], ◌∷◌}
use mathlib.Core.Bool.{Bool, cond}
use Prim.Native.Nat.{ℕ, zero, suc, ◌+◌, ◌-◌, ◌≤◌, ◌<◌}
use native.Mathlib.Nat.{zero-add, mul-one, add-zero, add-suc, suc-add, not-suc-le-zero, le_of_suc-le-suc}
use native.Mathlib.Numerals.{add-one}
use native.Mathlib.Omega.{arith}
use lib.Dec.{leb}
use lib.ListN.{length, get_or}
use borrow.Author.Tests.{leb-true, leb-false, eq-eqb, ne_eqb}
use Rattle.numbers.specs.Fraction.{◌⁄◌, nearest}
use Rattle.numbers.specs.Biased.{bias, unbiased}
use Rattle.color.specs.Stop.{Channel, Stop, no_stop, Around, single, pair, whole, at_or_below, placed, last_place, around_place, around}
use Rattle.color.specs.Byte.{units, mixed, rgba, color_at}
use Rattle.color.specs.Lent.{values_at, stops_from, stops_of, Lent, last_up_to, Between, mix}
use Rattle.color.proofs.Place.{Last, last}
use Rattle.color.proofs.Gap.{biased-units, test-whole, units-left, units-right}

-- stop i, with the values of stop n
abbrev stop_at : List ℕ → List ℕ → ℕ → ℕ → Stop
stop_at ps vs n i = record { value = values_at vs n; position = unbiased (get_or ps i 0) }

pub length-stops : (n : ℕ) (ps vs : List ℕ) → length (stops_from n ps vs) ≡ length ps
unfolding stops_from
length-stops n [] vs = refl
length-stops n (p ∷ ps) vs = ap suc (length-stops (suc n) ps vs)

get_or-stops : (n : ℕ) (ps vs : List ℕ) (i : ℕ) → i < length ps → get_or (stops_from n ps vs) i no_stop ≡ stop_at ps vs (n + i) i
unfolding stops_from
get_or-stops n [] vs i h = absurd (not-suc-le-zero h)
get_or-stops n (p ∷ ps) vs zero h = rw add-zero
get_or-stops n (p ∷ ps) vs (suc i) h = rw (add-suc n i, ← suc-add n i) (get_or-stops (suc n) ps vs i (le_of_suc-le-suc h))

last-stops : (n : ℕ) (ps vs : List ℕ) (at : ℕ) → last_place (λ a. at_or_below (whole (unbiased at)) a.position) (stops_from n ps vs) ≡ last_up_to ps at
unfolding stops_from last_place
last-stops n [] vs at = refl
last-stops n (p ∷ ps) vs at = ap₂ placed (test-whole p at bias) (last-stops (suc n) ps vs at)

module _ (ps vs : List ℕ) (h : Lent ps vs) (at : ℕ) where
  pub stop : (i : ℕ) → i < length ps → get_or (stops_of ps vs) i no_stop ≡ stop_at ps vs i i
  stop i l = get_or-stops 0 ps vs i l ∙ ap (λ (n : ℕ). stop_at ps vs n i) (zero-add i)

  around-place : (k : ℕ) → k ≡ last_up_to ps at → around (stops_of ps vs) (whole (unbiased at)) ≡ around_place (stops_of ps vs) k
  unfolding around
  around-place k e = ap (around_place (stops_of ps vs)) (last-stops 0 ps vs at ∙ sym e)

  -- one stop
  alone : (i : ℕ) → i < length ps → around (stops_of ps vs) (whole (unbiased at)) ≡ single (get_or (stops_of ps vs) i no_stop)
      → rgba (λ c. nearest (values_at vs i c ⁄ 255)) ≡ color_at (stops_of ps vs) (unbiased at)
  unfolding mixed
  alone i l e = sym (ap (λ (r : Around). rgba (λ c. nearest (mixed c (whole (unbiased at)) r))) (e ∙ ap single (stop i l)))

  pub color-first : 0 ≡ last_up_to ps at → rgba (λ c. nearest (values_at vs 0 c ⁄ 255)) ≡ color_at (stops_of ps vs) (unbiased at)
  color-first e = alone 0 h.some (around-place 0 e)

  -- the stop at place suc i, alone or with the next
  abbrev picked : ℕ → Bool → Around
  picked i b = cond b (single (get_or (stops_of ps vs) i no_stop)) (pair (get_or (stops_of ps vs) i no_stop) (get_or (stops_of ps vs) (suc i) no_stop))

  pub color-last : (i : ℕ) → suc i ≡ last_up_to ps at → suc i ≡ length ps → rgba (λ c. nearest (values_at vs i c ⁄ 255)) ≡ color_at (stops_of ps vs) (unbiased at)
  color-last i e l =
      alone i (omega arith) (around-place (suc i) e ∙ ap (picked i) (eq-eqb (suc i) (length (stops_of ps vs)) (l ∙ sym (length-stops 0 ps vs))))

  -- one stop has one color
  pub color-alone : length ps ≡ 1 → rgba (λ c. nearest (values_at vs 0 c ⁄ 255)) ≡ color_at (stops_of ps vs) (unbiased at)
  color-alone e = go (last_up_to ps at) refl
    where
      go : (k : ℕ) → k ≡ last_up_to ps at → rgba (λ c. nearest (values_at vs 0 c ⁄ 255)) ≡ color_at (stops_of ps vs) (unbiased at)
      go zero z = color-first z
      go (suc i) z =
          let w : suc i ≤ length ps = rw z (last (λ (p : ℕ). leb p at) 0 ps).within in
          let o : i ≡ 0 = omega arith in
          color-last 0 (ap suc (sym o) ∙ z) (sym e)

  module _ (i : ℕ) (e : suc i ≡ last_up_to ps at) (l : suc i ≡ length ps → ⊥) where
    found : Last (λ (p : ℕ). leb p at) ps 0 (suc i)
    found = subst (Last (λ (p : ℕ). leb p at) ps 0) (sym e) (last (λ (p : ℕ). leb p at) 0 ps)

    pub between : Between ps vs i at
    between =
        let n : suc i < length ps = omega (arith, found.within, l) in
        record {
          next = omega arith;
          below = leb-true (get_or ps i 0) at (found.here i refl);
          above = rw add-one (leb-false (get_or ps (suc i) 0) at (found.after (suc i) (omega arith) n));
          lent = h;
        }

    two : around (stops_of ps vs) (whole (unbiased at)) ≡ pair (stop_at ps vs i i) (stop_at ps vs (i + 1) (i + 1))
    two =
        let n : suc i < length ps = omega (arith, found.within, l) in
        around-place (suc i) e
        ∙ ap (picked i) (ne_eqb (suc i) (length (stops_of ps vs)) (λ p. l (p ∙ length-stops 0 ps vs)))
        ∙ ap₂ pair (stop i (omega arith)) (stop (suc i) n ∙ ap (λ (m : ℕ). stop_at ps vs m m) (sym (add-one i)))

    byte : (c : Channel)
        → nearest (mix (values_at vs i c) (values_at vs (i + 1) c) (at - get_or ps i 0) (get_or ps (i + 1) 0 - at))
        ≡ nearest (mixed c (whole (unbiased at)) (pair (stop_at ps vs i i) (stop_at ps vs (i + 1) (i + 1))))
    unfolding mixed
    byte c =
        let p = get_or ps i 0 in
        let q = get_or ps (i + 1) 0 in
        let b = between in
        let sum : units (unbiased p) (unbiased q) ≡ (at - p) + (q - at) = biased-units p q bias (omega arith) ∙ omega arith in
        rw (units-left p at bias b.below, units-right q at bias (omega arith), sum, mul-one)

    pub color-between : rgba (λ c. nearest (mix (values_at vs i c) (values_at vs (i + 1) c) (at - get_or ps i 0) (get_or ps (i + 1) 0 - at))) ≡ color_at (stops_of ps vs) (unbiased at)
    color-between = ap rgba (fun_ext byte) ∙ sym (ap (λ (r : Around). rgba (λ c. nearest (mixed c (whole (unbiased at)) r))) two)
