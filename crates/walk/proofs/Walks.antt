-- Laws of walks: how one begins, what its byte is, and how it goes on.
-- Assumes nothing.
use Rattle.std.proofs.Common.{◌≡◌, ℕ, ◌+◌, ◌-◌, ◌*◌, ◌/◌, ◌%◌, ◌^◌, ◌<◌, ◌≤◌, sym, refl, ap, ◌∙◌, mul-le-mul_right, mod-lt, mul-le-mul, mul-le-mul_left, div-add-mod', div-mul-le_self, arith}
use native.Mathlib.Nat.{le_of_mul-le-mul_left, lt_of_mul-lt-mul_left, div-eq_of_lt-le, lt-div-mul-add, mul-div-le}
use native.Mathlib.Decide.{dec_le}
use Rattle.numbers.specs.Fraction.{nearest}
use Rattle.color.specs.Lent.{mix, scale}
use Rattle.walk.specs.Walk.{InGap, numerator_at, Walks, Further, Fits}
use Rattle.walk.specs.declared.Walk.{Walk}

-- ---- a quotient with 54 binary digits after the point, in two rounds
module _ (n d : ℕ) (p : 0 < d) where
  pub scaled-is : n / d * scale + n % d * 134217728 / d * 134217728 + n % d * 134217728 % d * 134217728 / d ≡ n * scale / d
  scaled-is =
      let r : ℕ = n % d * 134217728 in
      let b : ℕ = r % d in
      let e₁ : n / d * d + n % d ≡ n = div-add-mod' n d in
      let e₂ : r / d * d + b ≡ r = div-add-mod' r d in
      let e₃ : b * 134217728 / d * d + b * 134217728 % d ≡ b * 134217728 = div-add-mod' (b * 134217728) d in
      let l : b * 134217728 % d < d = mod-lt (b * 134217728) p in
      sym (div-eq_of_lt-le {k = n / d * scale + r / d * 134217728 + b * 134217728 / d} d (omega arith) (omega arith))

-- ---- the exact number
module _ (p q g x : ℕ) (hp : p ≤ 65025) (hq : q ≤ 65025) (l : x ≤ g) where
  pub parts : (p * (g - x) ≤ 65025 * (g - x)) × (q * x ≤ 65025 * x)
  parts = (mul-le-mul_right (g - x) hp, mul-le-mul_right x hq)

  pub top : numerator_at p q g x ≤ 130305 * g
  top = omega (arith, parts)

  -- over 510 g, rounded down, it is the mix's byte
  mix-is : nearest (mix p q x (g - x)) ≡ numerator_at p q g x / (510 * g)
  mix-is =
      let e : x + (g - x) ≡ g = omega arith in
      let d : 2 * (255 * g) ≡ 510 * g = omega arith in
      rw (e, d)

-- m units further there is more of Q and less of P
ahead : (p q g x m : ℕ) → x + m ≤ g → numerator_at p q g (x + m) + 2 * p * m ≡ numerator_at p q g x + 2 * q * m
ahead p q g x m l =
    let e : g - x ≡ g - (x + m) + m = omega arith in
    let h : p * (g - x) ≡ p * (g - (x + m) + m) = ap (λ (z : ℕ). p * z) e in
    omega arith

-- what is at most 130,305 g, over 510 g
pub short-fits : (g r n : ℕ) → r ≡ scale / (510 * g) → n ≤ 130305 * g → n * r < 256 * scale
short-fits g r n e h =
    let m : 510 * g * r ≤ scale = rw e (mul-div-le scale (510 * g)) in
    omega (arith, m, mul-le-mul_right r h)

module _ (p q g s x : ℕ) (i : InGap p q g s x) where
  -- in a short gap all is a multiple of r, one over 510 g, rounded down
  pub begin-short-is : (r f u d : ℕ) → g ≤ 16384 → r ≡ scale / (510 * g) → f ≡ numerator_at p q g x * r + (130305 * g + 262144)
      → u ≡ 2 * q * s * r → d ≡ 2 * p * s * r → Walks p q g s x 262144 (record { f = f; up = u; down = d })
  begin-short-is r f u d l er ef eu ed =
      let some : 0 < 510 * g = omega (arith, i.gap.some) in
      let lack : ℕ = scale % (510 * g) in
      let e : scale / (510 * g) * (510 * g) + lack ≡ scale = div-add-mod' scale (510 * g) in
      let m : r * (510 * g) ≡ scale / (510 * g) * (510 * g) = ap (λ (z : ℕ). z * (510 * g)) er in
      let less : g * lack ≤ g * (510 * g) = mul-le-mul_left g (omega (arith, mod-lt scale some)) in
      let square : g * g ≤ 16384 * g = mul-le-mul_right g l in
      let mf : 510 * g * f ≡ 510 * g * (numerator_at p q g x * r + (130305 * g + 262144)) = ap (λ (z : ℕ). 510 * g * z) ef in
      let mu : 510 * g * u ≡ 510 * g * (2 * q * s * r) = ap (λ (z : ℕ). 510 * g * z) eu in
      let md : 510 * g * d ≡ 510 * g * (2 * p * s * r) = ap (λ (z : ℕ). 510 * g * z) ed in
      record {
        inside = i;
        one = r * (510 * g);
        lack = lack;
        whole = omega (arith, e, m);
        low = omega (arith, mf, less);
        high = omega (arith, mf, square, l);
        up-low = omega (arith, mu);
        up-high = omega (arith, mu);
        down-low = omega (arith, md);
        down-high = omega (arith, md);
      }

-- ---- a walk
module _ (p q g s x left : ℕ) (w : Walk) (h : Walks p q g s x left w) where
  -- with the scale itself
  above : numerator_at p q g x * scale + left * (510 * g) ≤ 510 * g * w.f
  above =
      let i = h.inside in
      let n = top p q g x i.first i.second i.gap.within in
      let e : numerator_at p q g x * (h.one + h.lack) ≡ numerator_at p q g x * scale = ap (λ (z : ℕ). numerator_at p q g x * z) h.whole in
      let m : numerator_at p q g x * h.lack ≤ 130305 * g * h.lack = mul-le-mul_right h.lack n in
      omega (arith, e, m, h.low)

  below : 510 * g * w.f + left * (510 * g) ≤ numerator_at p q g x * scale + scale
  below =
      let m : numerator_at p q g x * h.one ≤ numerator_at p q g x * scale = mul-le-mul_left (numerator_at p q g x) (omega (arith, h.whole)) in
      omega (arith, m, h.high)

  -- the byte fits 8 bits
  pub walk-small : w.f < 2 ^ 62
  walk-small =
      let i = h.inside in
      let some = i.gap.some in
      lt_of_mul-lt-mul_left (510 * g) (omega (arith, top p q g x i.first i.second i.gap.within, below))

pub walk-byte : (p q g s x left : ℕ) (w : Walk) → Walks p q g s x (left + 1) w → w.f / scale ≡ nearest (mix p q x (g - x))
walk-byte p q g s x left w h =
    let d : ℕ = 510 * g in
    let n : ℕ = numerator_at p q g x in
    let some : 0 < d = omega (arith, h.inside.gap.some) in
    let b : ℕ = n / d in
    let lo : b * d ≤ n = div-mul-le_self n d in
    let hi : n < b * d + d = lt-div-mul-add some in
    let from : d * (b * scale) ≤ d * w.f = omega (arith, lo, above p q g s x (left + 1) w h) in
    let to : d * w.f < d * ((b + 1) * scale) = omega (arith, hi, some, below p q g s x (left + 1) w h) in
    div-eq_of_lt-le {k = b} scale (le_of_mul-le-mul_left {k = d} from some) (lt_of_mul-lt-mul_left d to)
    ∙ sym (mix-is p q g x h.inside.first h.inside.second h.inside.gap.within)

-- n steps of a number, a to b, that add u and take v each, beside those of f, where up and down are u and v over d, rounded down
module _ (a b u v n d f up down left rest : ℕ) (e : b + n * v ≡ a + n * u) where
  raised : a + rest + (left + n) * d ≤ d * f → n * u ≤ n * (d * up + d) → n * (d * down) ≤ n * v
      → b + rest + left * d + d * (n * down) ≤ d * (f + n * up)
  raised h k l = omega arith

  lowered : d * f + (left + n) * d ≤ a + rest → n * (d * up) ≤ n * u → n * v ≤ n * (d * down + d)
      → d * (f + n * up) + left * d ≤ b + rest + d * (n * down)
  lowered h k l = omega arith

-- in multiples of one
spread : (a b p q n s one : ℕ) → b + 2 * p * (n * s) ≡ a + 2 * q * (n * s) → b * one + n * (2 * p * s * one) ≡ a * one + n * (2 * q * s * one)
spread a b p q n s one e =
    let m : (b + 2 * p * (n * s)) * one ≡ (a + 2 * q * (n * s)) * one = ap (λ (z : ℕ). z * one) e in
    omega arith

-- n steps at once
module _ (n p q g s x left : ℕ) (w : Walk) (h : Walks p q g s x (left + n) w) (l : x + n * s ≤ g) where
  step : numerator_at p q g (x + n * s) * h.one + n * (2 * p * s * h.one) ≡ numerator_at p q g x * h.one + n * (2 * q * s * h.one)
  step = spread (numerator_at p q g x) (numerator_at p q g (x + n * s)) p q n s h.one (ahead p q g x (n * s) l)

  up-low : n * (510 * g * w.up) ≤ n * (2 * q * s * h.one)
  up-low = mul-le-mul_left n h.up-low

  up-high : n * (2 * q * s * h.one) ≤ n * (510 * g * w.up + 510 * g)
  up-high = mul-le-mul_left n h.up-high

  down-low : n * (510 * g * w.down) ≤ n * (2 * p * s * h.one)
  down-low = mul-le-mul_left n h.down-low

  down-high : n * (2 * p * s * h.one) ≤ n * (510 * g * w.down + 510 * g)
  down-high = mul-le-mul_left n h.down-high

  rise : numerator_at p q g (x + n * s) * h.one + 130305 * g * h.lack + left * (510 * g) + 510 * g * (n * w.down) ≤ 510 * g * (w.f + n * w.up)
  rise = raised _ _ _ _ n (510 * g) w.f w.up w.down left _ step h.low up-high down-low

  fall : 510 * g * (w.f + n * w.up) + left * (510 * g) ≤ numerator_at p q g (x + n * s) * h.one + scale + 510 * g * (n * w.down)
  fall = lowered _ _ _ _ n (510 * g) w.f w.up w.down left _ step h.high up-low down-high

  -- the steps add and take no more than the whole gap
  most : (c : ℕ) → c ≤ 65025 → c * (n * s) * h.one ≤ 65025 * g * scale
  most c m = mul-le-mul (mul-le-mul m (omega arith)) (omega (arith, h.whole))

  pub walk-fits : Fits n w
  walk-fits =
      let i = h.inside in
      let some : 0 < 510 * g = omega (arith, i.gap.some) in
      record {
        here = walk-small p q g s x (left + n) w h;
        up = lt_of_mul-lt-mul_left (510 * g) (omega (arith, some, up-low, most q i.second));
        down = lt_of_mul-lt-mul_left (510 * g) (omega (arith, some, down-low, most p i.first));
        room = le_of_mul-le-mul_left {k = 510 * g} (omega (arith, rise)) some;
      }

  pub walk-further : (v : Walk) → Further n w v → Walks p q g s (x + n * s) left v
  walk-further v e =
      let m : 510 * g * (v.f + n * w.down) ≡ 510 * g * (w.f + n * w.up) = ap (λ (z : ℕ). 510 * g * z) e.f in
      let i = h.inside in
      let j = i.gap in
      record {
        inside = record { first = i.first; second = i.second; gap = record { some = j.some; small = j.small; stride = j.stride; within = l } };
        one = h.one;
        lack = h.lack;
        whole = h.whole;
        low = omega (arith, m, rise);
        high = omega (arith, m, fall);
        up-low = rw e.up h.up-low;
        up-high = rw e.up h.up-high;
        down-low = rw e.down h.down-low;
        down-high = rw e.down h.down-high;
      }

-- ---- a leap that ends at the byte where it began passes no other
between : (f up down z y m n : ℕ) → n ≤ m → z + m * down ≡ f + m * up → y + n * down ≡ f + n * up → f / scale ≡ z / scale → y / scale ≡ f / scale
between f up down z y m n l ez ey same = either (dec_le down up)
  where
    either : Dec (down ≤ up) → y / scale ≡ f / scale
    either (yes h) =
        let d : ℕ = up - down in
        let e : down + d ≡ up = omega arith in
        let o : n * (down + d) ≡ n * up = ap (λ (k : ℕ). n * k) e in
        let p : m * (down + d) ≡ m * up = ap (λ (k : ℕ). m * k) e in
        let k : n * d ≤ m * d = mul-le-mul_right d l in
        omega arith
    either (no h) =
        let d : ℕ = down - up in
        let e : up + d ≡ down = omega arith in
        let o : n * (up + d) ≡ n * down = ap (λ (k : ℕ). n * k) e in
        let p : m * (up + d) ≡ m * down = ap (λ (k : ℕ). m * k) e in
        let k : n * d ≤ m * d = mul-le-mul_right d l in
        omega arith

module _ (most p q g s x left : ℕ) (w v : Walk) (h : Walks p q g s x (left + (most + 1)) w) (l : x + most * s ≤ g) (e : Further most w v) (same : w.f / scale ≡ v.f / scale) where
  pub walk-steady : (n : ℕ) → n ≤ most → nearest (mix p q (x + n * s) (g - (x + n * s))) ≡ nearest (mix p q x (g - x))
  walk-steady n m =
      let k : n * s ≤ most * s = mul-le-mul_right s m in
      let e₁ : left + (most + 1) ≡ left + most - n + 1 + n = omega arith in
      let e₂ : left + (most + 1) ≡ left + most + 1 = omega arith in
      let a : Walks p q g s x (left + most - n + 1 + n) w = rw e₁ at h in
      let b : Walks p q g s x (left + most + 1) w = rw e₂ at h in
      let r = (walk-fits n p q g s x (left + most - n + 1) w a (omega arith)).room in
      let u : Walk = record { f = w.f + n * w.up - n * w.down; up = w.up; down = w.down } in
      let f : u.f + n * w.down ≡ w.f + n * w.up = omega arith in
      let o = walk-further n p q g s x (left + most - n + 1) w a (omega arith) u (record { f = f; up = refl; down = refl }) in
      sym (walk-byte p q g s (x + n * s) (left + most - n) u o)
      ∙ between w.f w.up w.down v.f u.f most n m e.f f same
      ∙ walk-byte p q g s x (left + most) w b
