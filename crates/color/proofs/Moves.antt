-- Locations that are moved by whole periods: a whole location and a fraction just above it, which move together.
-- Assumes nothing.
use mathlib.Core.Path.{◌≡◌, sym, ap, ◌∙◌, subst}
use mathlib.Core.Bool.{true, false, cond}
use Prim.Native.Nat.{ℕ, suc, ◌+◌, ◌-◌, ◌*◌, ◌/◌, ◌%◌, ◌≤◌, ◌<◌}
use native.Mathlib.Nat.{mod-lt, div-add-mod', mul-le-mul_right, le-mul_of_pos_right}
use native.Mathlib.Decide.{dec_le}
use native.Mathlib.Omega.{arith}
use lib.Dec.{leb}
use lib.IntN.{ℤ, pos, nat_abs, sub_ℕ, ◌+ℤ◌, ◌*ℤ◌, ◌-ℤ◌}
use lib.Signed.{le_z}
use borrow.Author.Tests.{leb-true, le-leb, lt-leb}
use Rattle.numbers.specs.Floor.{remainder}
use Rattle.numbers.proofs.Integers.{at-pos, at-neg, diff-eq, diff-pos, diff-add, diff-sub, diff-mul, biased-order, biased-is}
use Rattle.color.specs.Stop.{Location}
use Rattle.color.specs.Byte.{units}
use Rattle.color.specs.Accuracy.{Within}
use Rattle.color.specs.Paint.{moved_to}
use Rattle.color.specs.Lent.{moved_biased}
use Rattle.color.proofs.Gap.{from, below, within-biased, biased-units}

-- ---- biased locations
-- m is u, moved by whole periods of p until it lies from f up to but not including f + p
record Moved (f p u m : ℕ) : Type 0 where
  low : f ≤ m
  high : m < f + p
  back : ℕ
  on : ℕ
  same : m + back * p ≡ u + on * p

-- there is one such location
module _ (f p : ℕ) where
  not-further : (m n a b : ℕ) → f ≤ n → m < f + p → m + a * p ≡ n + b * p → a < b → ⊥
  not-further m n a b l h e k =
      let t : suc a * p ≤ b * p = mul-le-mul_right p k in
      omega (arith, t)

  unique : (u m n : ℕ) → Moved f p u m → Moved f p u n → m ≡ n
  unique u m n x y = either (dec_le a b) (dec_le b a)
    where
      a : ℕ
      a = x.back + y.on

      b : ℕ
      b = y.back + x.on

      e : m + a * p ≡ n + b * p
      e = omega (arith, x.same, y.same)

      either : Dec (a ≤ b) → Dec (b ≤ a) → m ≡ n
      either (yes k) (yes l) = let c : a * p ≡ b * p = ap (λ (z : ℕ). z * p) (omega arith) in omega (arith, e)
      either (no k) _ = absurd (not-further n m b a x.low y.high (sym e) (omega arith))
      either (yes k) (no l) = absurd (not-further m n a b y.low x.high e (omega arith))

back_sum : (f l u r q : ℕ) → u < f → f < l → r < l - f → q * (l - f) + r ≡ f - 1 - u → l - 1 - r + 0 * (l - f) ≡ u + suc q * (l - f)
back_sum f l u r q h k m e =
    let c : l ≡ f + (l - f) = omega arith in
    go (l - f) c e m
  where
    go : (p : ℕ) → l ≡ f + p → q * p + r ≡ f - 1 - u → r < p → l - 1 - r + 0 * p ≡ u + suc q * p
    go p c e m = omega arith

moved-once : (f l u : ℕ) → f < l → Moved f (l - f) u (moved_biased f l u)
moved-once f l u h = either (dec_le f u)
  where
    either : Dec (f ≤ u) → Moved f (l - f) u (moved_biased f l u)
    either (yes k) =
        let m : (u - f) % (l - f) < l - f = mod-lt (u - f) (omega arith) in
        rw (le-leb f u k)
        (record { low = omega arith; high = omega arith; back = (u - f) / (l - f); on = 0; same = omega (arith, div-add-mod' (u - f) (l - f)) })
    either (no k) =
        let n : u < f = omega arith in
        let m : (f - 1 - u) % (l - f) < l - f = mod-lt (f - 1 - u) (omega arith) in
        rw (lt-leb f u n)
        (record { low = omega arith; high = omega arith; back = 0; on = suc ((f - 1 - u) / (l - f)); same = back_sum f l u _ _ n h m (div-add-mod' (f - 1 - u) (l - f)) })

pub moved-range : (f l u : ℕ) → f < l → (f ≤ moved_biased f l u) × (moved_biased f l u < l)
moved-range f l u h = let x = moved-once f l u h in (x.low, omega (arith, x.high))

-- another location as far away, in the same period
pub moved-along : (f l u v m : ℕ) → f < l → f ≤ m → m < l → moved_biased f l u + v ≡ m + u → moved_biased f l v ≡ m
moved-along f l u v m h lo hi e =
    let x = moved-once f l u h in
    unique f (l - f) v _ _ (moved-once f l v h) (record { low = lo; high = omega arith; back = x.back; on = x.on; same = omega (arith, x.same) })

-- whole periods further
pub moved-again : (f l u n : ℕ) → f < l → n % (l - f) ≡ 0 → moved_biased f l (u + n) ≡ moved_biased f l u
moved-again f l u n h e =
    let x = moved-once f l u h in
    let d : n / (l - f) * (l - f) + 0 ≡ n = ap (λ (z : ℕ). n / (l - f) * (l - f) + z) (sym e) ∙ div-add-mod' n (l - f) in
    unique f (l - f) (u + n) _ _ (moved-once f l (u + n) h)
    (record { low = x.low; high = x.high; back = x.back + n / (l - f); on = x.on; same = omega (arith, x.same, d) })

-- ---- what they stand for
sum_back : (f p r : ℕ) → r < p → f + (p - 1 - r) ≡ f + p - 1 - r
sum_back f p r m = omega arith

module _ (o f p at : ℕ) (h : 0 < p) where
  -- the distance from the first
  away : sub_ℕ at o -ℤ sub_ℕ f o ≡ sub_ℕ at f
  away = diff-sub at o f o ∙ diff-eq (at + o) (o + f) at f (omega arith)

  plus : (r : ℕ) → sub_ℕ f o +ℤ pos r ≡ sub_ℕ (f + r) o
  plus r = ap (λ (z : ℤ). sub_ℕ f o +ℤ z) (diff-pos r) ∙ diff-add f o r 0 ∙ diff-eq (f + r) (o + 0) (f + r) o (omega arith)

  -- a biased location is moved as what it stands for
  pub moved-biased : moved_to (sub_ℕ f o) p (sub_ℕ at o) ≡ sub_ℕ (moved_biased f (f + p) at) o
  unfolding moved_to remainder
  moved-biased =
      let q : f + p - f ≡ p = omega arith in
      rw q (ap (λ (z : ℤ). sub_ℕ f o +ℤ pos (remainder z p)) away ∙ either (dec_le f at))
    where
      either : Dec (f ≤ at) → sub_ℕ f o +ℤ pos (remainder (sub_ℕ at f) p) ≡ sub_ℕ (cond (leb f at) (f + (at - f) % p) (f + p - 1 - (f - 1 - at) % p)) o
      either (yes k) = rw (at-pos at f k, le-leb f at k) (plus ((at - f) % p))
      either (no k) =
          let n : at < f = omega arith in
          let m : (f - 1 - at) % p < p = mod-lt (f - 1 - at) h in
          let e : f - suc at ≡ f - 1 - at = omega arith in
          let same = sum_back f p ((f - 1 - at) % p) m in
          rw (at-neg at f n, lt-leb f at n, e) (plus (p - 1 - (f - 1 - at) % p) ∙ ap (λ (z : ℕ). sub_ℕ z o) same)

-- m is some whole periods from u
by-periods : (m u back on p k : ℕ) → m + back * p ≡ u + on * p → sub_ℕ m k ≡ sub_ℕ u k +ℤ sub_ℕ on back *ℤ pos p
by-periods m u back on p k e =
    sym (ap (λ (z : ℤ). sub_ℕ u k +ℤ z) (diff-mul on back p) ∙ diff-add u k (on * p) (back * p) ∙ diff-eq (u + on * p) (k + back * p) m k (omega arith))

-- ---- a fraction t just above a whole location s
-- s and t are moved by as many periods, s to where it should be, and t is just above it again
pub record Together (F s : ℤ) (p : ℕ) (t : Location) : Type 0 where
  pub periods : ℤ
  pub whole : moved_to F p s ≡ s +ℤ periods *ℤ pos p
  pub part : moved_to (F *ℤ pos t.den) (p * t.den) t.num ≡ t.num +ℤ periods *ℤ pos (p * t.den)
  pub from_first : le_z F (moved_to F p s) ≡ true
  pub below_last : le_z (F +ℤ pos p) (moved_to F p s) ≡ false
  pub within : Within (moved_to F p s) (record { num = moved_to (F *ℤ pos t.den) (p * t.den) t.num; den = t.den })

module _ (f p u v d : ℕ) (some : 0 < p) (lo : u * d ≤ v) (hi : v < (u + 1) * d) where
  abbrev m : ℕ
  m = moved_biased f (f + p) u

  same-period : (a b : ℕ) → a + b - a ≡ b
  same-period a b = omega arith

  moved-u : Moved f p u m
  moved-u = subst (λ (q : ℕ). Moved f q u m) (same-period f p) (moved-once f (f + p) u (omega arith))

  positive : 0 < p * d
  positive = omega (arith, mul-le-mul_right d some)

  moved_v : Moved (f * d) (p * d) v (m * d + (v - u * d))
  moved_v =
      let x = moved-u in
      record {
        low = omega (arith, mul-le-mul_right d x.low);
        high = omega (arith, mul-le-mul_right d x.high);
        back = x.back;
        on = x.on;
        same = omega (arith, ap (λ (z : ℕ). z * d) x.same);
      }

  moved-part : moved_biased (f * d) (f * d + p * d) v ≡ m * d + (v - u * d)
  moved-part =
      let t = moved_biased (f * d) (f * d + p * d) v in
      unique (f * d) (p * d) v _ _
      (subst (λ (q : ℕ). Moved (f * d) q v t) (same-period (f * d) (p * d)) (moved-once (f * d) (f * d + p * d) v (omega (arith, positive)))) moved_v

  module _ (k : ℕ) where
    whole_is : moved_to (sub_ℕ f k) p (sub_ℕ u k) ≡ sub_ℕ m k
    whole_is = moved-biased k f p u some

    part-is : moved_to (sub_ℕ f k *ℤ pos d) (p * d) (sub_ℕ v (k * d)) ≡ sub_ℕ (m * d + (v - u * d)) (k * d)
    part-is =
        ap (λ (z : ℤ). moved_to z (p * d) (sub_ℕ v (k * d))) (diff-mul f k d) ∙ moved-biased (k * d) (f * d) (p * d) v positive
        ∙ ap (λ (n : ℕ). sub_ℕ n (k * d)) moved-part

    together-biased : Together (sub_ℕ f k) (sub_ℕ u k) p (record { num = sub_ℕ v (k * d); den = d })
    unfolding moved_v
    together-biased =
        let x = moved-u in
        let y = moved_v in
        let top : sub_ℕ f k +ℤ pos p ≡ sub_ℕ (f + p) k = plus k f p u some p in
        record {
          periods = sub_ℕ x.on x.back;
          whole = whole_is ∙ by-periods m u x.back x.on p k x.same;
          part = part-is ∙ by-periods (m * d + (v - u * d)) v x.back x.on (p * d) (k * d) y.same;
          from_first = rw whole_is (biased-order f m k ∙ le-leb f m x.low);
          below_last = rw (whole_is, top) (biased-order (f + p) m k ∙ lt-leb (f + p) m x.high);
          within = rw (whole_is, part-is) (within-biased k d m (m * d + (v - u * d)) (omega arith) (omega arith) (omega arith));
        }

pub together : (F s : ℤ) (p : ℕ) (t : Location) → 0 < p → Within s t → Together F s p t
together F s p t some w =
    let k : ℕ = nat_abs F + nat_abs s + nat_abs t.num in
    go t.den k (nat_abs (F +ℤ pos k)) (nat_abs (s +ℤ pos k)) (nat_abs (t.num +ℤ pos (k * t.den))) F s t.num
    (biased-is F k (omega arith)) (biased-is s k (omega arith)) (biased-is t.num (k * t.den) (omega (arith, le-mul_of_pos_right k w.fraction))) w
  where
    go : (d k f u v : ℕ) (F s n : ℤ) → sub_ℕ f k ≡ F → sub_ℕ u k ≡ s → sub_ℕ v (k * d) ≡ n → Within s (record { num = n; den = d })
        → Together F s p (record { num = n; den = d })
    go d k f u v F s n ef es en = rw (← ef, ← es, ← en) (λ w. together-biased f p u v d some (from k d u v w) (below k d u v w) k)

-- the last of two positions is the first and the units between them
pub last-is : (F T : ℤ) → le_z F T ≡ true → F +ℤ pos (units F T) ≡ T
last-is F T h =
    let k : ℕ = nat_abs F + nat_abs T in
    go k (nat_abs (F +ℤ pos k)) (nat_abs (T +ℤ pos k)) F T (biased-is F k (omega arith)) (biased-is T k (omega arith)) h
  where
    go : (k f l : ℕ) (F T : ℤ) → sub_ℕ f k ≡ F → sub_ℕ l k ≡ T → le_z F T ≡ true → F +ℤ pos (units F T) ≡ T
    go k f l F T ef el = rw (← ef, ← el) (λ h.
        let o : f ≤ l = leb-true f l (sym (biased-order f l k) ∙ h) in
        let e : f + (l - f) ≡ l = omega arith in
        rw (biased-units f l k o) (ap (λ (z : ℤ). sub_ℕ f k +ℤ z) (diff-pos (l - f)) ∙ diff-add f k (l - f) 0 ∙ diff-eq (f + (l - f)) (k + 0) l k (omega arith)))
