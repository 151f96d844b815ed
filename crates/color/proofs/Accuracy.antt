-- The bytes of a location are accurate at every fraction from it up to, not including, the next whole number.
-- Assumes nothing.
use mathlib.Core.Path.{◌≡◌, refl, ap, subst, fun_ext}
use mathlib.Core.List.{List, [], ◌∷◌, map}
use mathlib.Core.Bool.{true, false}
use Prim.Native.Nat.{ℕ, zero, suc, ◌+◌, ◌*◌, ◌≤◌, ◌<◌, min, max}
use native.Mathlib.Nat.{mul-one, mul-pos, mul-le-mul_right, le_trans, le_refl}
use native.Mathlib.Decide.{dec_le}
use native.Mathlib.Omega.{arith}
use lib.IntN.{ℤ}
use lib.ListN.{get_or}
use Rattle.numbers.specs.Fraction.{◌⁄◌, nearest}
use Rattle.numbers.proofs.Nearest.{nearest-half, nearest-mono}
use Rattle.stops.specs.declared.PlacedStop.{PlacedStop}
use Rattle.color.specs.Stop.{Channel, red, green, blue, alpha, premultiplied, Stop, stop_of, no_stop, Around, pair, Location, whole, at_or_below, last_place, around_place, around}
use Rattle.color.specs.Byte.{mixed, byte_at, rgba, byte_of, color_at}
use Rattle.color.specs.Accuracy.{Within, Near, least, greatest, Accurate}
use Rattle.gradient.specs.Bytes.{ColorBytes}
use Rattle.stops.specs.Bytes.{AllBytes}
use Rattle.color.specs.Lent.{mix}
use Rattle.color.proofs.Mix.{mix-mono, mix-same, mix-off}
use Rattle.color.proofs.Place.{View, alone, two, view}
use Rattle.color.proofs.Gap.{Gap, same_test, gap}

-- what holds of every stop whose color is made of bytes: no channel is above alpha, and alpha is at most 255 · 255
pub record Sound (a : Stop) : Type 0 where
  pub below-alpha : (c : Channel) → a.value c ≤ a.value alpha
  pub top : a.value alpha ≤ 65025

sound-stop : (s : PlacedStop) → ColorBytes s.color → Sound (stop_of s)
unfolding premultiplied
sound-stop s h = record { below-alpha = below; top = omega arith }
  where
    below : (c : Channel) → premultiplied s.color c ≤ 255 * s.color.alpha
    below red = mul-le-mul_right s.color.alpha h.red
    below green = mul-le-mul_right s.color.alpha h.green
    below blue = mul-le-mul_right s.color.alpha h.blue
    below alpha = le_refl (255 * s.color.alpha)

pub all_sound : (l : List PlacedStop) → AllBytes l → (i : ℕ) → Sound (get_or (map stop_of l) i no_stop)
all_sound [] h i = record { below-alpha = λ c. le_refl 0; top = omega arith }
all_sound (s ∷ l) h zero = sound-stop s (h 0)
all_sound (s ∷ l) h (suc i) = all_sound l (λ j. h (suc j)) i

same-around : (stops : List Stop) (s : ℤ) (t : Location) → Within s t → around stops t ≡ around stops (whole s)
unfolding around
same-around stops s t w = ap (λ f. around_place stops (last_place f stops)) (fun_ext (λ a. same_test s t w a.position))

-- two stops with a gap between them
module _ (a b : Stop) (s : ℤ) (t : Location) (g : Gap a.position b.position s t) where
  -- the byte there is the nearest whole of a mix
  byte-mix : (c : Channel) → nearest (mixed c (whole s) (pair a b)) ≡ nearest (mix (a.value c) (b.value c) g.x g.y)
  unfolding mixed
  byte-mix c = rw (g.right, g.left, g.sum, mul-one)

  exact-mix : (c : Channel) → mixed c t (pair a b) ≡ (a.value c * g.z + b.value c * (g.x * t.den + g.e)) ⁄ (255 * (g.x + g.y) * t.den)
  unfolding mixed
  exact-mix c = rw (g.right-t, g.left-t, g.sum)

  pair-near : Sound a → Sound b → (c : Channel) → Near (pair a b) (nearest (mixed c (whole s) (pair a b))) (mixed c t (pair a b))
  pair-near ha hb c =
      rw (byte-mix c, exact-mix c, g.sum)
      (mix-off (a.value c) (b.value c) g.x g.y g.z t.den g.e
      (le_trans (ha.below-alpha c) ha.top) (le_trans (hb.below-alpha c) hb.top) g.some g.rest g.part)

  pair-range : (c : Channel) → (least c (pair a b) ≤ nearest (mixed c (whole s) (pair a b))) × (nearest (mixed c (whole s) (pair a b)) ≤ greatest c (pair a b))
  pair-range c = rw (byte-mix c) (go (dec_le p q))
    where
      p : ℕ
      p = a.value c

      q : ℕ
      q = b.value c

      mono : (p q p' q' : ℕ) → p ≤ p' → q ≤ q' → nearest (mix p q g.x g.y) ≤ nearest (mix p' q' g.x g.y)
      mono = mix-mono g.x g.y g.some

      own : (p : ℕ) → nearest (mix p p g.x g.y) ≡ nearest (p ⁄ 255)
      own = mix-same g.x g.y g.some

      go : Dec (p ≤ q)
          → (min (nearest (p ⁄ 255)) (nearest (q ⁄ 255)) ≤ nearest (mix p q g.x g.y))
          × (nearest (mix p q g.x g.y) ≤ max (nearest (p ⁄ 255)) (nearest (q ⁄ 255)))
      go (yes h) = omega (arith, own p, own q, mono p p p q (le_refl p) h, mono p q q q h (le_refl q))
      go (no n) = let h : q ≤ p = omega arith in omega (arith, own p, own q, mono q q p q h (le_refl q), mono p q p p (le_refl p) h)

  pair-alpha : Sound a → Sound b → (c : Channel) → nearest (mixed c (whole s) (pair a b)) ≤ nearest (mixed alpha (whole s) (pair a b))
  pair-alpha ha hb c =
      rw (byte-mix c, byte-mix alpha)
      (mix-mono g.x g.y g.some (a.value c) (b.value c) (a.value alpha) (b.value alpha) (ha.below-alpha c) (hb.below-alpha c))

-- what holds of the stops around, one or two, whichever they are
module _ (stops : List Stop) (sound : (i : ℕ) → Sound (get_or stops i no_stop)) (s : ℤ) (t : Location) (w : Within s t) where
  between : (i : ℕ) → at_or_below (whole s) (get_or stops i no_stop).position ≡ true → at_or_below (whole s) (get_or stops (suc i) no_stop).position ≡ false
      → Gap (get_or stops i no_stop).position (get_or stops (suc i) no_stop).position s t
  between i = gap (get_or stops i no_stop).position (get_or stops (suc i) no_stop).position s t w

  around-near : (c : Channel) {r : Around} → View stops (whole s) r → Near r (nearest (mixed c (whole s) r)) (mixed c t r)
  unfolding mixed
  around-near c (alone i) = nearest-half ((get_or stops i no_stop).value c) 255 (omega arith)
  around-near c (two i h k) = pair-near (get_or stops i no_stop) (get_or stops (suc i) no_stop) s t (between i h k) (sound i) (sound (suc i)) c

  around-range : (c : Channel) {r : Around} → View stops (whole s) r
      → (least c r ≤ nearest (mixed c (whole s) r)) × (nearest (mixed c (whole s) r) ≤ greatest c r)
  unfolding mixed
  around-range c (alone i) = omega arith
  around-range c (two i h k) = pair-range (get_or stops i no_stop) (get_or stops (suc i) no_stop) s t (between i h k) c

  around-alpha : (c : Channel) {r : Around} → View stops (whole s) r → nearest (mixed c (whole s) r) ≤ nearest (mixed alpha (whole s) r)
  unfolding mixed
  around-alpha c (alone i) =
      nearest-mono ((get_or stops i no_stop).value c ⁄ 255) ((get_or stops i no_stop).value alpha ⁄ 255) (omega arith) (omega arith)
      (omega (arith, (sound i).below-alpha c))
  around-alpha c (two i h k) = pair-alpha (get_or stops i no_stop) (get_or stops (suc i) no_stop) s t (between i h k) (sound i) (sound (suc i)) c

  around-defined : (c : Channel) {r : Around} → View stops (whole s) r → 0 < (mixed c t r).den
  unfolding mixed
  around-defined c (alone i) = omega arith
  around-defined c (two i h k) =
      let g = between i h k in
      rw g.sum (mul-pos {m = 255 * (g.x + g.y)} (omega (arith, g.some)) (omega (arith, g.part)))

  all-accurate : Accurate stops s t (λ c. byte_at c stops s)
  all-accurate = record {
    defined = λ c. rw (same-around stops s t w) (around-defined c (view stops (whole s)));
    near = λ c. rw (same-around stops s t w) (around-near c (view stops (whole s)));
    from-least = λ c. (around-range c (view stops (whole s))).0;
    to-greatest = λ c. (around-range c (view stops (whole s))).1;
    within-alpha = λ c. around-alpha c (view stops (whole s));
    same-stops = same-around stops s t w;
  }

-- the bytes of four are these bytes
pub byte-each : (f : Channel → ℕ) → f ≡ byte_of (rgba f)
byte-each f = fun_ext each
  where
    each : (c : Channel) → f c ≡ byte_of (rgba f) c
    each red = refl
    each green = refl
    each blue = refl
    each alpha = refl

-- demand 3, of the color of a location: for every list of placed stops, in any order, whose colors are made of bytes
pub accurate : (l : List PlacedStop) → AllBytes l → (s : ℤ) (t : Location) → Within s t → Accurate (map stop_of l) s t (byte_of (color_at (map stop_of l) s))
accurate l h s t w =
    subst (Accurate (map stop_of l) s t) (byte-each (λ c. byte_at c (map stop_of l) s)) (all-accurate (map stop_of l) (all_sound l h) s t w)
