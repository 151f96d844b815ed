-- Places along the line in fixed point: their errors add up, and where a place is far enough below the next whole number its whole part is the
-- location.
-- Assumes nothing.
use Rattle.std.proofs.Common.{◌≡◌, ℕ, ◌+◌, ◌-◌, ◌*◌, ◌/◌, ◌%◌, ◌<◌, ◌≤◌, Bool, true, false, sym, ap, ◌∙◌, add-zero, mul-le-mul_right, mod-lt, div-lt_iff_lt-mul, mul-le-mul, mul-le-mul_left, div-add-mod', arith}
use native.Mathlib.Nat.{sub-zero, mul-add-div}
use native.Mathlib.Decide.{dec_le}
use Rattle.root.specs.Root.{IsRoot, root_of}
use Rattle.root.proofs.Laws.{root-le, root-eq, root_is, root-div}
use Rattle.line.specs.Box.{Box}
use Rattle.line.specs.Location.{squared, norm, location_by}
use Rattle.line.specs.Represented.{odd_of, vector_in, Bounded, rule_in}
use Rattle.line.specs.declared.SignedVector.{SignedVector}
use Rattle.line.specs.declared.Line.TheVariants as L
use Rattle.line.proofs.Lines.{square-is, odd-below, weighted-le}
use Rattle.line.proofs.Bounds.{sound-scale}
use Rattle.fixed.specs.declared.Steps.{Steps}
use Rattle.fixed.specs.declared.RowLine.{RowLine}
use Rattle.fixed.specs.Steps.{Approximates, Steady, reach_of, place_at, Reaches, Advances, AlongRow, Decided, FloorInTable, Certain}

square-order : (x y : ℕ) → x * x ≤ y * y → x ≤ y
square-order x y h = root-le 1 (y * y) x y (omega arith) (omega arith)

-- what two numbers bound, their products do
product-below : (n a b c d : ℕ) → a * a * n ≤ c * c → b * b * n ≤ d * d → a * b * n ≤ c * d
product-below n a b c d h k = square-order (a * b * n) (c * d) (omega (arith, mul-le-mul h k))

product-above : (n a b c d : ℕ) → c * c ≤ a * a * n → d * d ≤ b * b * n → c * d ≤ a * b * n
product-above n a b c d h k = square-order (c * d) (a * b * n) (omega (arith, mul-le-mul h k))

module _ (n : ℕ) where
  approximates-add : (u v t s a b : ℕ) → Approximates u n t a → Approximates v n s b → Approximates (u + v) n (t + s) (a + b)
  approximates-add u v t s a b p q = record {
    low = omega (arith, p.low, q.low, product-below n a b (t * 33554432) (s * 33554432) p.low q.low);
    high = omega (arith, p.high, q.high, product-above n (a + u) (b + v) (t * 33554432) (s * 33554432) p.high q.high);
  }

  approximates-times : (u t a k : ℕ) → Approximates u n t a → Approximates (u * k) n (t * k) (a * k)
  approximates-times u t a k p = record {
    low = omega (arith, mul-le-mul_right (k * k) p.low);
    high = omega (arith, mul-le-mul_right (k * k) p.high);
  }

  approximates-more : (u v t a : ℕ) → u ≤ v → Approximates u n t a → Approximates v n t a
  approximates-more u v t a h p =
      let k : a + u ≤ a + v = omega arith in
      record { low = p.low; high = omega (arith, p.high, mul-le-mul_right n (mul-le-mul k k)) }

  -- it fits where t does
  approximates-le : (u t a : ℕ) → 0 < n → Approximates u n t a → a ≤ t * 33554432
  approximates-le u t a some p =
      let m : ℕ = t * 33554432 in
      root-le n (squared m) a m p.low (omega (arith, mul-le-mul_left {m = 1} {n = n} ((m + 1) * (m + 1)) some))

  -- the location is its whole part
  approximates-whole : (t e : ℕ) → 0 < n → Approximates 8190 n t e → e % 33554432 < 33546240 → e / 33554432 ≡ root_of n (squared t)
  approximates-whole t e some p f =
      let q : ℕ = e / 33554432 in
      let l : q * 33554432 ≤ e = omega arith in
      let m : e + 8191 ≤ (q + 1) * 33554432 = omega arith in
      root-eq n (squared t) q some (record {
        low = omega (arith, p.low, mul-le-mul_right n (mul-le-mul l l));
        high = omega (arith, p.high, mul-le-mul_right n (mul-le-mul m m));
      })

  -- a half pixels across and b half pixels down
  approximates-place : (x y k l a b : ℕ) → a ≤ 4095 → b ≤ 4095 → Approximates 1 n (32 * x) k → Approximates 1 n (32 * y) l → Approximates 8190 n (32 * (a * x + b * y)) (k * a + l * b)
  approximates-place x y k l a b ha hb p q =
      let e : 32 * x * a + 32 * y * b ≡ 32 * (a * x + b * y) = omega arith in
      rw e at (approximates-more (1 * a + 1 * b) 8190 _ _ (omega arith)
      (approximates-add (1 * a) (1 * b) _ _ _ _ (approximates-times 1 (32 * x) k a p) (approximates-times 1 (32 * y) l b q)))

-- ---- a step by one root
ratio-is : (d n : ℕ) → 0 < n → d / n * 67108864 + d % n * 67108864 / n ≡ d * 67108864 / n
ratio-is d n some =
    let e : d / n * n + d % n ≡ d = div-add-mod' d n in
    let f : d * 67108864 ≡ n * (d / n * 67108864) + d % n * 67108864 = omega arith in
    sym (ap (λ (z : ℕ). z / n) f ∙ mul-add-div some (d / n * 67108864) (d % n * 67108864))

pub ratio-fits : (x n : ℕ) → 0 < n → x * x ≤ n → (x * x * 17179869184 / n ≤ 17179869184) × (x * x * 17179869184 % n < n) × (x * x * 17179869184 % n * 67108864 / n < 67108864)
ratio-fits x n some h =
    let m : x * x * 17179869184 % n < n = mod-lt (x * x * 17179869184) some in
    let k : x * x * 17179869184 / n < 17179869185 = (div-lt_iff_lt-mul some).1 (omega arith) in
    (omega arith, m, (div-lt_iff_lt-mul some).1 (omega arith))

pub step_is : (x n r : ℕ) → 0 < n → r ≡ root_of 1 (x * x * 17179869184 / n * 67108864 + x * x * 17179869184 % n * 67108864 / n) → Approximates 1 n (32 * x) r
step_is x n r some e =
    let m : ℕ = x * x * 17179869184 * 67108864 in
    let f : r ≡ root_of n m = e ∙ ap (root_of 1) (ratio-is (x * x * 17179869184) n some) ∙ root-div n m some in
    let a : IsRoot n m r = rw f (root_is n m some) in
    record { low = omega (arith, a.low); high = omega (arith, a.high) }

-- ---- a pixel of a box
odd-le : (back : Bool) (w i : ℕ) → i < w → w ≤ 2048 → odd_of back w i ≤ 4095
odd-le back w i h k = omega (arith, odd-below back w i h)

-- the half steps to pixel (i, j)
abbrev stepped : Steps → SignedVector → ℕ → ℕ → ℕ → ℕ → ℕ
stepped s v w h i j = s.across * odd_of v.left w i + s.down * odd_of v.up h j

module _ (v : SignedVector) (w h i j : ℕ) (box : Box w h) (p : i < w) (q : j < h) where
  pub place-fits : (e : ℕ) → Bounded v → Approximates 8190 (norm (vector_in v)) (reach_of v w h i j) e → e < 144115188075855872
  place-fits e b within =
      omega (
        arith,
        approximates-le (norm (vector_in v)) 8190 (reach_of v w h i j) e (sound-scale (L.Straight v) w h b) within,
        weighted-le 4095 (odd_of v.left w i) (odd_of v.up h j) v.x v.y (odd-le v.left w i p box.width) (odd-le v.up h j q box.height),
        b.sum,
      )

  pub place-whole : (e : ℕ) → Bounded v → Approximates 8190 (norm (vector_in v)) (reach_of v w h i j) e → e % 33554432 < 33546240
      → e / 33554432 ≡ location_by (rule_in (L.Straight v) w h) i j
  unfolding location_by
  place-whole e b within f =
      rw (square-is v.left v.up w h v.x v.y i j p q)
      (approximates-whole (norm (vector_in v)) (reach_of v w h i j) e (sound-scale (L.Straight v) w h b) within f)

  place-approximates : (s : Steps) → Steady s v → Approximates 8190 (norm (vector_in v)) (reach_of v w h i j) (stepped s v w h i j)
  place-approximates s l =
      approximates-place (norm (vector_in v)) v.x v.y s.across s.down (odd_of v.left w i) (odd_of v.up h j)
      (odd-le v.left w i p box.width) (odd-le v.up h j q box.height) l.across l.down

-- ---- a row, from pixel 0 forth or back: a half step across is a, and the half steps down are d in all
forth-is : (a d i : ℕ) → a * (2 * 0 + 1) + d + 2 * a * i - 0 * i ≡ a * (2 * i + 1) + d
forth-is a d i = omega arith

module _ (a d w i : ℕ) (p : i < w) where
  pixels : w - 1 - 0 ≡ w - 1 - i + i
  pixels = omega arith

  back-room : 2 * a * i ≤ a * (2 * (w - 1 - 0) + 1) + d
  back-room = let k : ℕ = w - 1 - i in rw pixels (omega arith)

  back_is : a * (2 * (w - 1 - 0) + 1) + d + 0 * i - 2 * a * i ≡ a * (2 * (w - 1 - i) + 1) + d
  back_is = let k : ℕ = w - 1 - i in rw pixels (omega arith)

module _ (s : Steps) (v : SignedVector) (w h j : ℕ) (l : Steady s v) (box : Box w h) (q : j < h) where
  pub row_fits : (i : ℕ) → i < w → stepped s v w h i j < 144115188075855872
  row_fits i p = place-fits v w h i j box p q (stepped s v w h i j) l.bounded (place-approximates v w h i j box p q s l)

  pub step_fits : s.across < 70368744177664
  step_fits = omega (arith, approximates-le (norm (vector_in v)) 1 (32 * v.x) s.across (sound-scale (L.Straight v) w h l.bounded) l.across, l.bounded.sum)

  follows : (r : RowLine) → ((i : ℕ) → i < w → Reaches r i)
      → ((i : ℕ) → i < w → place_at r i ≡ stepped s v w h i j) → AlongRow r v w h j
  follows r fits is = record {
    box = box;
    bounded = l.bounded;
    row = q;
    fits = fits;
    place = λ i p. rw (is i p) (place-approximates v w h i j box p q s l);
  }

  forth-place : v.left ≡ false → (i : ℕ) → stepped s v w h 0 j + 2 * s.across * i - 0 * i ≡ stepped s v w h i j
  forth-place e i = rw e (forth-is s.across (s.down * odd_of v.up h j) i)

  pub goes-forth : v.left ≡ false → AlongRow (record { first = stepped s v w h 0 j; forth = 2 * s.across; back = 0 }) v w h j
  goes-forth e = follows _ (λ i p. record { sum = omega (arith, forth-place e i, row_fits i p); room = omega arith }) (λ i p. forth-place e i)

  back_fits : v.left ≡ true → (i : ℕ) → i < w → 2 * s.across * i ≤ stepped s v w h 0 j + 0 * i
  back_fits e i p = rw e (omega (arith, back-room s.across (s.down * odd_of v.up h j) w i p))

  pub goes_back : v.left ≡ true → AlongRow (record { first = stepped s v w h 0 j; forth = 0; back = 2 * s.across }) v w h j
  goes_back e =
      follows _
      (λ i p. record { sum = omega (arith, row_fits 0 box.some-width); room = back_fits e i p })
      (λ i p. rw e (back_is s.across (s.down * odd_of v.up h j) w i p))

-- ---- many places at once
-- k pixels on
place-on : (r : RowLine) (i k : ℕ) → Reaches r i → Reaches r (i + k) → place_at r (i + k) + r.back * k ≡ place_at r i + r.forth * k
place-on r i k p q = omega (arith, p.room, q.room)

pub place-step : (r : RowLine) (i k s b : ℕ) → Reaches r i → Reaches r (i + k) → (s + r.back) % 18446744073709551616 ≡ r.forth → b ≤ place_at r i
    → b ≤ place_at r (i + k) → (place_at r i - b + s * k) % 18446744073709551616 ≡ place_at r (i + k) - b
place-step r i k s b p q e h l =
    let c : ℕ = (s + r.back) / 18446744073709551616 in
    let f : s + r.back ≡ c * 18446744073709551616 + r.forth = omega arith in
    let m : (s + r.back) * k ≡ (c * 18446744073709551616 + r.forth) * k = ap (λ (z : ℕ). z * k) f in
    let n : place_at r i - b + s * k ≡ place_at r (i + k) - b + c * k * 18446744073709551616 = omega (arith, place-on r i k p q) in
    let small : place_at r (i + k) - b < 18446744073709551616 = omega (arith, q.sum) in
    omega arith

-- a number on a straight way from a to d, k steps of m on: each step adds f and takes b
between : (a c d f b k m x y : ℕ) → k ≤ m → c + b * k ≡ a + f * k → d + b * m ≡ a + f * m → x ≤ a → x ≤ d → a < y → d < y → (x ≤ c) × (c < y)
between a c d f b k m x y l e g xa xd ay dy = go (dec_le b f)
  where
    go : Dec (b ≤ f) → (x ≤ c) × (c < y)
    go (yes h) =
        let z : ℕ = f - b in
        let u : f ≡ b + z = omega arith in
        let v : z * k ≤ z * m = mul-le-mul_left z l in
        omega (arith, ap (λ (n : ℕ). n * k) u, ap (λ (n : ℕ). n * m) u)
    go (no h) =
        let z : ℕ = b - f in
        let u : b ≡ f + z = omega arith in
        let v : z * k ≤ z * m = mul-le-mul_left z l in
        omega (arith, ap (λ (n : ℕ). n * k) u, ap (λ (n : ℕ). n * m) u)

pub inside-between : (r : RowLine) (i k m base size : ℕ) → k ≤ m → Reaches r i → Reaches r (i + k) → Reaches r (i + m) → FloorInTable base size (place_at r i)
    → FloorInTable base size (place_at r (i + m)) → FloorInTable base size (place_at r (i + k))
inside-between r i k m base size l p q t x y =
    let b = between (place_at r i) (place_at r (i + k)) (place_at r (i + m)) r.forth r.back k m (base * 33554432) ((base + size) * 33554432) l (place-on r i k p q) (place-on r i m p t)
    (omega (arith, x.low)) (omega (arith, y.low)) (omega (arith, x.high)) (omega (arith, y.high)) in
    record { low = omega arith; high = omega arith }

-- the low digits of a place come from the low halves
pub low-digits : (e s k : ℕ) → (e + s * k) % 18446744073709551616 % 33554432 ≡ (e % 4294967296 + s % 4294967296 * k) % 33554432
low-digits e s k =
    let a : ℕ = s / 4294967296 in
    let f : s * k ≡ (a * 4294967296 + s % 4294967296) * k = ap (λ (z : ℕ). z * k) (sym (div-add-mod' s 4294967296)) in
    omega arith

-- ---- places whose whole parts are decided, one after the other
module _ (low step : ℕ) where
  pub decided-more : (k l u : ℕ) → l ≡ (low + step * k) % 4294967296 → (u ≡ 0 → Decided l) → (count : ℕ) → (count ≡ 0 → (m : ℕ) → m < k → Decided (low + step * m))
      → count + u ≡ 0 → (m : ℕ) → m < k + 1 → Decided (low + step * m)
  decided-more k l u e t count h z m b = go (dec_le k m)
    where
      go : Dec (k ≤ m) → Decided (low + step * m)
      go (yes f) =
          let s : m ≡ k = omega arith in
          let g : l % 33554432 < 33546240 = t (omega arith) in
          rw s (omega arith)
      go (no f) = h (omega arith) m (omega arith)

-- n places from pixel i on, where the table has the first and the last
pub all-certain : (r : RowLine) (i n base size e s l m : ℕ) → 0 < n → ((k : ℕ) → k < n → Reaches r (i + k)) → e ≡ place_at r i → FloorInTable base size (place_at r i)
    → FloorInTable base size (place_at r (i + (n - 1)))
    → Advances r s → l ≡ e % 4294967296 → m ≡ s % 4294967296 → ((k : ℕ) → k < n → Decided (l + m * k)) → (k : ℕ) → k < n → Certain base size (place_at r (i + k))
all-certain r i n base size e s l m some fits ee first last steps el em decided k h =
    let p : Reaches r i = rw add-zero at (fits 0 some) in
    let q : Reaches r (i + k) = fits k h in
    let t : Decided (e % 4294967296 + s % 4294967296 * k) = rw (el, em) at (decided k h) in
    let f : (e + s * k) % 18446744073709551616 ≡ place_at r (i + k) = rw ee (simp sub-zero at (steps i k 0 p q (omega arith) (omega arith))) in
    let d : place_at r (i + k) % 33554432 ≡ (e % 4294967296 + s % 4294967296 * k) % 33554432 = ap (λ (z : ℕ). z % 33554432) (sym f) ∙ low-digits e s k in
    record { decided = rw d t; inside = inside-between r i k (n - 1) base size (omega arith) p q (fits (n - 1) (omega arith)) first last }
