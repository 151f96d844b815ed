-- Roots from those of the rows above: among four numbers far from the center, among 16 nearer to it, and among 65 anywhere.
-- Assumes nothing.
use Rattle.std.proofs.Common.{◌≡◌, ℕ, ◌+◌, ◌-◌, ◌*◌, ◌/◌, ◌<◌, ◌≤◌, ap, mul-le-mul, arith}
use native.Mathlib.Decide.{dec_le}
use Rattle.numbers.specs.Biased.{bias, unbiased}
use Rattle.numbers.specs.Fraction.{distance}
use Rattle.root.specs.Root.{IsRoot}
use Rattle.root.proofs.Laws.{root-le}
use Rattle.line.specs.Circle.{from}
use Rattle.circleroots.proofs.Columns.{from_is}
use Rattle.line.specs.declared.BiasedCenter.{BiasedCenter}
use Rattle.circleroots.specs.Squares.{square_of, Nearest, Short}

-- p, q and g are roots or a guess; x, y and z are the numbers of three rows, whose second difference is 2·64²
low_near : (p q g x y z k u : ℕ) → p ≡ k + 63 → q ≡ k + u → g + 64 ≡ k + 2 * u → u ≤ 128 → q * q ≤ y → x < (p + 1) * (p + 1)
    → x + z ≡ 2 * y + 8192 → g * g ≤ z
low_near p q g x y z k u ep eq eg h hy hx e =
    let uu : u * u ≤ 128 * u = mul-le-mul h (omega arith) in
    omega (arith, uu, ap (λ (m : ℕ). m * m) ep, ap (λ (m : ℕ). m * m) eq, ap (λ (m : ℕ). m * m) eg)

low-steep : (q g x y z v : ℕ) → q ≡ v + 64 → g ≤ v → q * q ≤ y → x ≤ y + 128 * q + 4096 → x + z ≡ 2 * y + 8192 → g * g ≤ z
low-steep q g x y z v eq h hy hx e = omega (arith, mul-le-mul h h, ap (λ (m : ℕ). m * m) eq)

-- small numbers beside their squares
beside : (n : ℕ) → (3 * n ≤ n * n + 6) × (15 * n ≤ n * n + 210)
beside n = (three (dec_le 3 n), fifteen (dec_le 15 n))
  where
    three : Dec (3 ≤ n) → 3 * n ≤ n * n + 6
    three (yes h) = let k : 3 * n ≤ n * n = mul-le-mul h (omega arith) in omega arith
    three (no h) = omega arith

    fifteen : Dec (15 ≤ n) → 15 * n ≤ n * n + 210
    fifteen (yes h) = let k : 15 * n ≤ n * n = mul-le-mul h (omega arith) in omega arith
    fifteen (no h) = omega arith

module _ (p q g x y z : ℕ) (px : p * p ≤ x) (yq : y < (q + 1) * (q + 1)) (e : x + z ≡ 2 * y + 8192) where
  high-away : (a : ℕ) → q ≡ p + a → g + 1 ≡ p + 2 * a → (4098 ≤ q → z < (g + 4) * (g + 4)) × (383 ≤ q → z < (g + 16) * (g + 16))
  high-away a eq eg =
      (λ far. omega (arith, ap (λ (m : ℕ). m * m) eq, ap (λ (m : ℕ). m * m) eg), λ far. omega (arith, ap (λ (m : ℕ). m * m) eq, ap (λ (m : ℕ). m * m) eg))

  high-toward : (b : ℕ) → p ≡ g + 2 * b + 1 → q ≡ g + b + 1 → (4098 ≤ q → z < (g + 4) * (g + 4)) × (383 ≤ q → z < (g + 16) * (g + 16))
  high-toward b ep eq = (
    λ far. omega (arith, (beside b).0, ap (λ (m : ℕ). m * m) ep, ap (λ (m : ℕ). m * m) eq),
    λ far. omega (arith, (beside b).1, ap (λ (m : ℕ). m * m) ep, ap (λ (m : ℕ). m * m) eq),
  )

-- ---- p and q are the roots of two rows, and g is one less than the next root would be if all were as far apart
module _ (p q g x y z : ℕ) (guess : g + p + 1 ≡ 2 * q) (px : p * p ≤ x) (xp : x < (p + 1) * (p + 1)) (qy : q * q ≤ y) (yq : y < (q + 1) * (q + 1))
    (e : x + z ≡ 2 * y + 8192) (some : 383 ≤ q) (xy : x ≤ y + 128 * q + 4096) (yx : y ≤ x + 128 * p + 4096) where
  steps : q ≤ p + 65
  steps = root-le 1 y q (p + 65) (omega arith) (omega arith)

  pub not-above : g * g ≤ z
  not-above = either (dec_le p (q + 63))
    where
      either : Dec (p ≤ q + 63) → g * g ≤ z
      either (yes h) = low_near p q g x y z (p - 63) (q + 63 - p) (omega (arith, steps)) (omega (arith, steps)) (omega (arith, steps)) (omega (arith, steps)) qy xp e
      either (no h) = low-steep q g x y z (q - 64) (omega arith) (omega arith) qy xy e

  pub not-below : (4098 ≤ q → z < (g + 4) * (g + 4)) × (383 ≤ q → z < (g + 16) * (g + 16))
  not-below = either (dec_le p q)
    where
      either : Dec (p ≤ q) → (4098 ≤ q → z < (g + 4) * (g + 4)) × (383 ≤ q → z < (g + 16) * (g + 16))
      either (yes h) = high-away p q g x y z px yq e (q - p) (omega arith) (omega arith)
      either (no h) = high-toward p q g x y z px yq e (p - q) (omega arith) (omega arith)

-- ---- the next row's root from that of one row: s is the square of the column, f and k are how far the center is from the two rows, r is the first root
module _ (s f k r : ℕ) (root : IsRoot 1 (s + f * f) r) where
  pub next-away : f ≤ k → k ≤ f + 64 → (r * r ≤ s + k * k) × (s + k * k < (r + 65) * (r + 65))
  next-away fk kf =
      let fr : f ≤ r = root-le 1 (s + f * f) f r (omega arith) root.high in
      (omega (arith, root.low, mul-le-mul fk fk), omega (arith, root.high, mul-le-mul kf kf))

  pub next-toward : k ≤ f → f ≤ k + 64 → ((r - 64) * (r - 64) ≤ s + k * k) × (s + k * k < (r - 64 + 65) * (r - 64 + 65))
  next-toward kf fk = (
    low (dec_le (r - 64) k),
    let m : r + 1 ≤ r - 64 + 65 = omega arith in omega (arith, root.high, mul-le-mul kf kf, mul-le-mul m m),
  )
    where
      low : Dec (r - 64 ≤ k) → (r - 64) * (r - 64) ≤ s + k * k
      low (yes h) = omega (arith, mul-le-mul h h)
      low (no h) =
          let v : ℕ = r - 64 in
          let e : r ≡ v + 64 = omega arith in
          omega (arith, root.low, mul-le-mul fk fk, ap (λ (m : ℕ). m * m) e)

-- ---- three rows
away : (f g h : ℕ) → g ≡ f + 64 → h ≡ f + 128 → f * f + h * h ≡ 2 * (g * g) + 8192
away f g h a b = omega (arith, ap (λ (m : ℕ). m * m) a, ap (λ (m : ℕ). m * m) b)

across : (f g h : ℕ) → f + g ≡ 64 → h ≡ g + 64 → f * f + h * h ≡ 2 * (g * g) + 8192
across f g h a b = omega (arith, ap (λ (m : ℕ). f * m) a, ap (λ (m : ℕ). g * m) a, ap (λ (m : ℕ). m * m) b)

-- the second difference of the squares of rows, on either side of the center
pub squares-bend : (c m l j : ℕ) → m + 1 ≡ l → l + 1 ≡ j → square_of c m + square_of c j ≡ 2 * square_of c l + 8192
squares-bend c m l j el ej = go (from (unbiased c) (64 * m + 32)) (from (unbiased c) (64 * l + 32)) (from (unbiased c) (64 * j + 32)) (from_is c (64 * m + 32)) (from_is c (64 * l + 32)) (from_is c (64 * j + 32))
  where
    go : (f g h : ℕ) → f ≡ distance (64 * m + 32 + bias) c → g ≡ distance (64 * l + 32 + bias) c → h ≡ distance (64 * j + 32 + bias) c → f * f + h * h ≡ 2 * (g * g) + 8192
    go f g h ef eg eh = either (dec_le c (64 * m + 32 + bias)) (dec_le c (64 * l + 32 + bias)) (dec_le c (64 * j + 32 + bias))
      where
        either : Dec (c ≤ 64 * m + 32 + bias) → Dec (c ≤ 64 * l + 32 + bias) → Dec (c ≤ 64 * j + 32 + bias) → f * f + h * h ≡ 2 * (g * g) + 8192
        either (yes a) b d = away f g h (omega arith) (omega arith)
        either (no a) (yes b) d = across f g h (omega arith) (omega arith)
        either (no a) (no b) (yes d) = let k : h * h + f * f ≡ 2 * (g * g) + 8192 = across h g f (omega arith) (omega arith) in omega (arith, k)
        either (no a) (no b) (no d) = let k : h * h + f * f ≡ 2 * (g * g) + 8192 = away h g f (omega arith) (omega arith) in omega (arith, k)

-- ---- the nearest of columns or rows; the farthest is the first or the last
square_le : (c i k : ℕ) → distance (64 * i + 32 + bias) c ≤ distance (64 * k + 32 + bias) c → square_of c i ≤ square_of c k
square_le c i k h =
    let m : from (unbiased c) (64 * i + 32) ≤ from (unbiased c) (64 * k + 32) = rw (from_is c (64 * i + 32), from_is c (64 * k + 32)) h in
    mul-le-mul m m

pub nearest-first : (c a i : ℕ) → c ≤ 64 * a + 33554432 → a ≤ i → square_of c a ≤ square_of c i
nearest-first c a i h p = square_le c a i (omega arith)

pub nearest-inside : (c d i : ℕ) → d + 33554432 ≡ c → square_of c (d / 64) ≤ square_of c i
nearest-inside c d i e = square_le c (d / 64) i (omega arith)

pub nearest-last : (c k i : ℕ) → 64 * k + 33554496 ≤ c → i ≤ k → square_of c k ≤ square_of c i
nearest-last c k i h p = square_le c k i (omega arith)

pub farthest : (c w k i y b : ℕ) → k + 1 ≡ w → i < w → square_of c 0 + y < b → square_of c k + y < b → square_of c i + y < b
farthest c w k i y b e p first last = either (dec_le c (64 * i + 32 + bias))
  where
    either : Dec (c ≤ 64 * i + 32 + bias) → square_of c i + y < b
    either (yes h) = omega (arith, square_le c i k (omega arith))
    either (no h) = omega (arith, square_le c i 0 (omega arith))

-- columns more than k away from column m, the nearest of w
module _ (c w m k : ℕ) (h : Nearest c w m) (i : ℕ) where
  square-from : 64 * k ≤ distance (64 * i + 32 + bias) c → 64 * k * (64 * k) ≤ square_of c i
  square-from l =
      let f : 64 * k ≤ from (unbiased c) (64 * i + 32) = rw (from_is c (64 * i + 32)) l in
      mul-le-mul f f

  pub beyond-before : i < m - k → 64 * k * (64 * k) ≤ square_of c i
  beyond-before l = square-from (omega (arith, h.before (omega arith)))

  pub beyond-after : i < w → m + k < i → 64 * k * (64 * k) ≤ square_of c i
  beyond-after p l = square-from (omega (arith, h.after (omega arith)))

-- where the nearest pixel of a row is less than 66 px away, the squared distances of the row are below 2^43
pub near-short : (c : BiasedCenter) (w j m : ℕ) → Nearest c.x w m → w ≤ 2048 → square_of c.x m + square_of c.y j < 17842176 → Short c w j
near-short c w j m h width near i p =
    let f : ℕ = from (unbiased c.x) (64 * m + 32) in
    let a : f ≤ 4224 = root-le 1 (f * f) f 4224 (omega arith) (omega arith) in
    let b : from (unbiased c.x) (64 * i + 32) ≤ 135296 =
    rw (from_is c.x (64 * i + 32)) (let a' : distance (64 * m + 32 + bias) c.x ≤ 4224 = rw (← from_is c.x (64 * m + 32)) a in omega (arith, h.within)) in
    omega (arith, mul-le-mul b b)
