-- The locations of a part of a row, from those of the rows above.
-- Assumes nothing.
use Rattle.std.proofs.Common.{◌≡◌, ℕ, ◌+◌, ◌-◌, ◌*◌, ◌%◌, ◌<◌, ◌≤◌, List, get_or, mul-le-mul, arith}
use native.Mathlib.Decide.{dec_le}
use Rattle.numbers.specs.Biased.{bias, unbiased}
use Rattle.root.specs.Root.{IsRoot, root_of}
use Rattle.root.proofs.Laws.{root-le, root_is}
use Rattle.line.specs.Location.{location_by}
use Rattle.line.specs.Circle.{from}
use Rattle.line.specs.declared.BiasedCenter.{BiasedCenter}
use Rattle.lowroots.specs.Found.{root_limit, short_limit}
use Rattle.circleroots.specs.Squares.{Ahead, Onward, far_square, near_square, square_of, Known, InTable, KnownPart, Kept, FromOneRow, FromTwoRows, Beyond, Short, Guessable}
use Rattle.circleroots.proofs.Columns.{square-below, from_next, from-toward, from-away}
use Rattle.circleroots.proofs.Far.{not-above, not-below, next-away, next-toward, squares-bend, farthest}
use Rattle.circleroots.proofs.Parts.{Each}

abbrev pub AheadAt : ℕ → ℕ → List ℕ → ℕ → List ℕ → List ℕ → ℕ → ℕ → Type 0
AheadAt n limit low r before last i b = Ahead n limit ((get_or low i 0 + r) % 4294967296) (get_or before i 0) (get_or last i 0) b

abbrev pub OnwardAt : List ℕ → ℕ → List ℕ → ℕ → ℕ → ℕ → Type 0
OnwardAt low r last down i b = Onward ((get_or low i 0 + r) % 4294967296) (get_or last i 0) down b

-- ---- one pixel
-- s is the square of its column; f, h and k are how far the center is from the two rows above and from its own row; p and q are the roots in those two
pub record Three (s f h k p q : ℕ) : Type 0 where
  pub fh : f ≤ h + 64
  pub hf : h ≤ f + 64
  pub kh : k ≤ h + 64
  pub bend : f * f + k * k ≡ 2 * (h * h) + 8192
  pub first : IsRoot 1 (s + f * f) p
  pub second : IsRoot 1 (s + h * h) q
  pub fits : q < root_limit

module _ (s f h k p q : ℕ) (t : Three s f h k p q) where
  fp : f ≤ p
  fp = root-le 1 (s + f * f) f p (omega arith) t.first.high

  hq : h ≤ q
  hq = root-le 1 (s + h * h) h q (omega arith) t.second.high

  root_before : (m : ℕ) → m * m ≤ s + k * k → m ≤ q + 65
  root_before m l = root-le 1 (s + k * k) m (q + 65) (omega arith) (omega (arith, hq, mul-le-mul t.kh t.kh, t.second.high))

  nearer : s + f * f ≤ s + h * h + 128 * q + 4096
  nearer = omega (arith, hq, mul-le-mul t.fh t.fh)

  farther : s + h * h ≤ s + f * f + 128 * p + 4096
  farther = omega (arith, fp, mul-le-mul t.hf t.hf)

  module _ (n limit low b : ℕ) (a : Ahead n limit low p q b) (some : 383 ≤ q) where
    doubled : a.guess + p + 1 ≡ 2 * q
    doubled =
        let pq : p ≤ q + 65 = root-le 1 (s + f * f) p (q + 65) t.first.low (omega (arith, nearer, t.second.high)) in
        omega (arith, a.is, a.fits, t.fits)

    low-side : a.guess * a.guess ≤ s + k * k
    low-side =
        not-above p q a.guess (s + f * f) (s + h * h) (s + k * k) doubled (omega (arith, t.first.low)) (omega (arith, t.first.high)) (omega (arith, t.second.low)) (omega (arith, t.second.high))
        (omega (arith, t.bend)) (omega (arith, some)) nearer farther

    high-side : (4098 ≤ q → s + k * k < (a.guess + 4) * (a.guess + 4)) × (383 ≤ q → s + k * k < (a.guess + 16) * (a.guess + 16))
    high-side =
        not-below p q a.guess (s + f * f) (s + h * h) (s + k * k) doubled (omega (arith, t.first.low)) (omega (arith, t.first.high)) (omega (arith, t.second.low)) (omega (arith, t.second.high))
        (omega (arith, t.bend)) (omega (arith, some)) nearer farther

    guess-below : (m : ℕ) → s + k * k < (m + 1) * (m + 1) → a.guess ≤ m
    guess-below m top = root-le 1 (s + k * k) a.guess m (omega (arith, low-side)) (omega arith)

  pub far-pixel : (low b : ℕ) → Ahead 4 root_limit low p q b → (s + k * k) % 4294967296 ≡ low → far_square ≤ s + k * k → s + k * k < 9007199254740992 → b ≡ root_of 1 (s + k * k)
  far-pixel low b a is far fits =
      let l : 4224 ≤ q + 65 = root_before 4224 (omega arith) in
      let some : 383 ≤ q = omega arith in
      a.found (s + k * k) is (omega (arith, guess-below 4 root_limit low b a some 94906266 (omega arith))) (low-side 4 root_limit low b a some) ((high-side 4 root_limit low b a some).0 (omega arith))

  pub near-pixel : (low b : ℕ) → Ahead 16 short_limit low p q b → (s + k * k) % 4294967296 ≡ low → near_square ≤ s + k * k → s + k * k < 8796093022208 → b ≡ root_of 1 (s + k * k)
  near-pixel low b a is far fits =
      let l : 448 ≤ q + 65 = root_before 448 (omega arith) in
      let some : 383 ≤ q = omega arith in
      a.found (s + k * k) is (omega (arith, guess-below 16 short_limit low b a some 2965821 (omega arith))) (low-side 16 short_limit low b a some) ((high-side 16 short_limit low b a some).1 some)

-- ---- a part of row j
module _ (c : BiasedCenter) (w j : ℕ) (low : List ℕ) (room-before room-last : ℕ) (g : Guessable c w j low room-before room-last) where
  root-here : (m a b : ℕ) (s : List ℕ) → KnownPart c m a b s → (i : ℕ) → a ≤ i → i < b → IsRoot 1 (square_of c.x i + square_of c.y m) (get_or s i 0)
  unfolding location_by
  root-here m a b s part i p q = rw (part i p q) (root_is 1 (square_of c.x i + square_of c.y m) (omega arith))

  sum_below : (m : ℕ) → m < 2048 → (i : ℕ) → i < w → square_of c.x i + square_of c.y m < 9007199254740992
  sum_below m h i p = omega (arith, square-below c.x i g.near.x (omega arith), square-below c.y m g.near.y h)

  -- columns a up to b; x is the row's square, and r its low 32 bits
  module _ (a b : ℕ) (bw : b ≤ w) (r x : ℕ) (half : r ≡ x % 4294967296) (own : x ≡ square_of c.y j) where
    low-is : (i : ℕ) → i < w → (square_of c.x i + square_of c.y j) % 4294967296 ≡ (get_or low i 0 + r) % 4294967296
    low-is i p = omega (arith, g.halves.at i p)

    -- from two rows
    module _ (before last l : List ℕ) (k m : ℕ) (ek : k + 2 ≡ j) (em : m + 1 ≡ j) (two : KnownPart c k a b before) (one : KnownPart c m a b last) where
      three : (i : ℕ) → a ≤ i → i < b
          → Three (square_of c.x i) (from (unbiased c.y) (64 * k + 32)) (from (unbiased c.y) (64 * m + 32)) (from (unbiased c.y) (64 * j + 32)) (get_or before i 0) (get_or last i 0)
      three i p q =
          let km : k + 1 ≡ m = omega arith in
          let second = root-here m a b last one i p q in
          record {
            fh = (from_next c.y k m km).0;
            hf = (from_next c.y k m km).1;
            kh = (from_next c.y m j em).1;
            bend = squares-bend c.y k m j km em;
            first = root-here k a b before two i p q;
            second = second;
            fits = let f : get_or last i 0 ≤ 134217727 = root-le 1 (square_of c.x i + square_of c.y m) (get_or last i 0) 134217727 second.low (omega (arith, sum_below m (omega arith) i (omega arith))) in omega arith;
          }

      far-is : Each (AheadAt 4 root_limit low r before last) a b l → Beyond c far_square j a b → KnownPart c j a b l
      unfolding location_by
      far-is all far i p q =
          far-pixel (square_of c.x i) (from (unbiased c.y) (64 * k + 32)) (from (unbiased c.y) (64 * m + 32)) (from (unbiased c.y) (64 * j + 32)) (get_or before i 0) (get_or last i 0)
          (three i p q) _ (get_or l i 0) (all i p q) (low-is i (omega arith)) (far i p q) (sum_below j g.height i (omega arith))

      near-is : Each (AheadAt 16 short_limit low r before last) a b l → Beyond c near_square j a b → Short c w j → KnownPart c j a b l
      unfolding location_by
      near-is all far short i p q =
          near-pixel (square_of c.x i) (from (unbiased c.y) (64 * k + 32)) (from (unbiased c.y) (64 * m + 32)) (from (unbiased c.y) (64 * j + 32)) (get_or before i 0) (get_or last i 0)
          (three i p q) _ (get_or l i 0) (all i p q) (low-is i (omega arith)) (far i p q) (short i (omega arith))

    -- what a part of the row has found
    pub far-found : (before last l : List ℕ) → Each (AheadAt 4 root_limit low r before last) a b l → Kept a b before l → Beyond c far_square j a b
        → FromTwoRows c j a b last before l
    far-found before last l all kept far = record { kept = kept; part = λ k m ek em two one. far-is before last l k m ek em two one all far }

    pub near-found : (before last l : List ℕ) → Each (AheadAt 16 short_limit low r before last) a b l → Kept a b before l → Beyond c near_square j a b
        → Short c w j → FromTwoRows c j a b last before l
    near-found before last l all kept far short = record { kept = kept; part = λ k m ek em two one. near-is before last l k m ek em two one all far short }

    -- from one row
    module _ (last l : List ℕ) (m : ℕ) (em : m + 1 ≡ j) (one : KnownPart c m a b last) (short : Short c w j) where
      last-below : (i : ℕ) → a ≤ i → i < b → get_or last i 0 < short_limit
      last-below i p q =
          let root = root-here m a b last one i p q in
          let h : ℕ = from (unbiased c.y) (64 * m + 32) in
          let k : ℕ = from (unbiased c.y) (64 * j + 32) in
          let hk : h ≤ k + 64 = (from_next c.y m j em).0 in
          let kr : k ≤ 2965821 = root-le 1 (k * k) k 2965821 (omega arith) (omega (arith, short i (omega arith))) in
          let top : get_or last i 0 ≤ 2965886 = root-le 1 (square_of c.x i + h * h) (get_or last i 0) 2965886 root.low (omega (arith, short i (omega arith), mul-le-mul hk hk)) in
          omega arith

      -- `down` is 64 where row j is nearer to the center than the row above, else 0
      next-is : (down : ℕ) → (64 * j + bias < c.y → down ≡ 64) → (c.y ≤ 64 * j + bias → down ≡ 0)
          → Each (OnwardAt low r last down) a b l → KnownPart c j a b l
      unfolding location_by
      next-is down e₁ e₂ all i p q = either (dec_le c.y (64 * j + bias))
        where
          s : ℕ
          s = square_of c.x i

          root : IsRoot 1 (s + square_of c.y m) (get_or last i 0)
          root = root-here m a b last one i p q

          at : (g : ℕ) → (all i p q).guess ≡ g → g < short_limit → (g * g ≤ s + square_of c.y j) × (s + square_of c.y j < (g + 65) * (g + 65)) → get_or l i 0 ≡ root_of 1 (s + square_of c.y j)
          at g e h n = (all i p q).found (s + square_of c.y j) (low-is i (omega arith)) (rw e h) (rw e n.0) (rw e n.1)

          either : Dec (c.y ≤ 64 * j + bias) → get_or l i 0 ≡ root_of 1 (s + square_of c.y j)
          either (yes h) =
              at (get_or last i 0) (omega (arith, (all i p q).is (last-below i p q), e₂ h)) (last-below i p q)
              (next-away s (from (unbiased c.y) (64 * m + 32)) (from (unbiased c.y) (64 * j + 32)) (get_or last i 0) root (from-away c.y m j em h) (from_next c.y m j em).1)
          either (no h) =
              at (get_or last i 0 - 64) (omega (arith, (all i p q).is (last-below i p q), e₁ (omega arith))) (omega (arith, last-below i p q))
              (next-toward s (from (unbiased c.y) (64 * m + 32)) (from (unbiased c.y) (64 * j + 32)) (get_or last i 0) root (from-toward c.y m j em (omega arith)) (from_next c.y m j em).0)

    pub next-found : (old last l : List ℕ) (down : ℕ) → (64 * j + bias < c.y → down ≡ 64) → (c.y ≤ 64 * j + bias → down ≡ 0)
        → Each (OnwardAt low r last down) a b l → Kept a b old l → Short c w j → FromOneRow c j a b last old l
    next-found old last l down e₁ e₂ all kept short = record { kept = kept; part = λ m em one. next-is last l m em one short down e₁ e₂ all }

  -- all of a row's locations are in the table where those of the nearest column k, of the first and of the last column are
  pub row-in-table : (l : List ℕ) → Known c w j l → (base n k e : ℕ) → k < w → ((i : ℕ) → i < w → square_of c.x k ≤ square_of c.x i) → e + 1 ≡ w
      → base ≤ get_or l k 0 → get_or l 0 0 < base + n → get_or l e 0 < base + n → InTable base n w l
  row-in-table l known base n k e kw least ew lo first last = record { low = above; high = below }
    where
      above : (i : ℕ) → i < w → base ≤ get_or l i 0
      above i p =
          let a = root-here j 0 w l (λ u r. known.at u) k (omega arith) kw in
          let b = root-here j 0 w l (λ u r. known.at u) i (omega arith) p in
          let m : get_or l k 0 ≤ get_or l i 0 = root-le 1 (square_of c.x i + square_of c.y j) (get_or l k 0) (get_or l i 0) (omega (arith, a.low, least i p)) b.high in
          omega arith

      square-in : (i : ℕ) → i < w → get_or l i 0 < base + n → square_of c.x i + square_of c.y j < (base + n) * (base + n)
      square-in i p h =
          let m : get_or l i 0 + 1 ≤ base + n = omega arith in
          omega (arith, (root-here j 0 w l (λ u r. known.at u) i (omega arith) p).high, mul-le-mul m m)

      below : (i : ℕ) → i < w → get_or l i 0 < base + n
      below i p =
          let all = farthest c.x w e i (square_of c.y j) ((base + n) * (base + n)) ew p (square-in 0 (omega arith) first) (square-in e (omega arith) last) in
          let t : ℕ = base + n - 1 in
          let u : t + 1 ≡ base + n = omega arith in
          let m : get_or l i 0 ≤ t = root-le 1 (square_of c.x i + square_of c.y j) (get_or l i 0) t (root-here j 0 w l (λ u r. known.at u) i (omega arith) p).low (rw u (omega (arith, all))) in
          omega arith
