-- The bounds of line lengths, locations and positions. Assumes nothing.
use mathlib.Core.Path.{◌≡◌, ap, ap₂, subst}
use mathlib.Core.Bool.{Bool, true}
use Prim.Native.Nat.{ℕ, zero, suc, ◌+◌, ◌*◌, ◌-◌, ◌/◌, ◌%◌, ◌≤◌, ◌<◌, min, max}
use native.Mathlib.Nat.{mul-le-mul, mul-le-mul_right, lt_of_le_of_lt}
use native.Mathlib.Decide.{dec_le}
use native.Mathlib.Omega.{arith}
use lib.IntN.{ℤ, pos, negsuc, nat_abs, neg_ℤ, neg_ℤ-neg_ℤ, ◌*ℤ◌}
use Rattle.numbers.specs.Biased.{bias, unbiased}
use Rattle.numbers.proofs.Integers.{diff-of, diff-abs, biased-is}
use Rattle.numbers.proofs.Signed.{biased-high}
use Rattle.numbers.proofs.Units.{length-bound, percentage-bound}
use Rattle.root.specs.Root.{IsRoot, root_of}
use Rattle.root.proofs.Laws.{root_is, root-most}
use Rattle.sine.specs.Sines.{sine_of}
use Rattle.sine.proofs.Rules.{parts}
use Rattle.gradient.specs.declared.Side.TheVariants as S
use Rattle.gradient.specs.declared.Direction.{Direction}
use Rattle.gradient.specs.declared.Direction.TheVariants as D
use Rattle.gradient.specs.declared.Coordinate.{Coordinate}
use Rattle.gradient.specs.declared.Coordinate.TheVariants as C
use Rattle.gradient.specs.declared.Extent.TheVariants as E
use Rattle.gradient.specs.declared.Size.{Size}
use Rattle.gradient.specs.declared.Size.TheVariants as Z
use Rattle.gradient.specs.declared.Shape.{Shape}
use Rattle.gradient.specs.declared.Shape.TheVariants as Sh
use Rattle.gradient.specs.Range.{coordinate_in, size_in, shape_in}
use Rattle.gradient.proofs.Laws.{length-range, percentage-range, radius-range, circle-range}
use Rattle.line.specs.Box.{Box}
use Rattle.line.specs.Vector.{Vector, vector, in_quadrant, sine_z, quarters, vector_of}
use Rattle.line.specs.Location.{location_by, squared, norm, reach, line_length, along, line_rule}
use Rattle.line.specs.Circle.{Center, coordinate_units, center_of, from, to_corner, of_corners, radius_of, circle_rule}
use Rattle.line.specs.Line.{length_of, rule_of}
use Rattle.line.specs.declared.SignedVector.{SignedVector}
use Rattle.line.specs.declared.BiasedCenter.{BiasedCenter}
use Rattle.line.specs.declared.Line.{Line}
use Rattle.line.specs.declared.Line.TheVariants as L
use Rattle.line.specs.Represented.{signed, is_left, is_top, odd_of, vector_in, Bounded, center_in, Near, Sound, rule_in}
use Rattle.line.specs.Bounds.{longest, Bounds}
use Rattle.line.proofs.Vectors.{abs-signed, is_negative, as-signed, across-is, down_is}
use Rattle.line.proofs.Lines.{norm-is, norm-some, square-is, odd-below}
use Rattle.line.proofs.Circles.{from-below}

-- ---- no direction's vector is 0
minus_minus : (n : ℕ) → nat_abs (neg_ℤ (neg_ℤ (pos n))) ≡ n
minus_minus n = ap nat_abs (neg_ℤ-neg_ℤ (pos n))

quadrant-sum : (k r : ℕ) → k < 4 → nat_abs (in_quadrant k r) + nat_abs (neg_ℤ (in_quadrant ((k + 1) % 4) r)) ≡ sine_of r + sine_of (360 - r)
quadrant-sum zero r h = ap (λ (n : ℕ). sine_of r + n) (abs-signed true (sine_of (360 - r)))
quadrant-sum (suc zero) r h = rw (minus_minus (sine_of r)) (omega arith)
quadrant-sum (suc (suc zero)) r h = rw (minus_minus (sine_of (360 - r)), abs-signed true (sine_of r))
quadrant-sum (suc (suc (suc zero))) r h = rw (abs-signed true (sine_of (360 - r)), abs-signed true (sine_of r)) (omega arith)
quadrant-sum (suc (suc (suc (suc k)))) r h = absurd (omega arith)

some-angle : (q : ℕ) → 0 < nat_abs (sine_z q) + nat_abs (neg_ℤ (sine_z (q + 360)))
unfolding sine_z
some-angle q =
    let k : ℕ = q / 360 % 4 in
    let r : ℕ = q % 360 in
    let e : (q + 360) / 360 % 4 ≡ (k + 1) % 4 = omega arith in
    let f : (q + 360) % 360 ≡ r = omega arith in
    rw (e, f, quadrant-sum k r (omega arith)) (parts r (omega arith)).some

some-vector : (d : Direction) (w h : ℕ) → Box w h → 0 < nat_abs (vector_of d w h).x + nat_abs (vector_of d w h).y
unfolding vector_of
some-vector (D.Side S.Top) w h b = omega arith
some-vector (D.Side S.Right) w h b = omega arith
some-vector (D.Side S.Bottom) w h b = omega arith
some-vector (D.Side S.Left) w h b = omega arith
some-vector (D.Corner v a) w h b = rw (← across-is a h, ← down_is v w, abs-signed (is_left a) h, abs-signed (is_top v) w) (omega (arith, b.some-width))
some-vector (D.Angle a) w h b = some-angle (quarters a)

some-norm : (d : Direction) (w h : ℕ) → Box w h → 0 < norm (vector_of d w h)
unfolding norm
some-norm d w h b = norm-some (nat_abs (vector_of d w h).x) (nat_abs (vector_of d w h).y) (some-vector d w h b)

-- ---- the line of a linear gradient is at most the diagonal of the largest box
twice-le : (p q : ℕ) → 2 * (p * q) ≤ p * p + q * q
twice-le p q = either (dec_le p q)
  where
    apart : (a d : ℕ) → 2 * (a * (a + d)) ≤ a * a + (a + d) * (a + d)
    apart a d = omega arith

    either : Dec (p ≤ q) → 2 * (p * q) ≤ p * p + q * q
    either (yes h) = let e : p + (q - p) ≡ q = omega arith in subst (λ (n : ℕ). 2 * (p * n) ≤ p * p + n * n) e (apart p (q - p))
    either (no f) =
        let e : q + (p - q) ≡ p = omega arith in
        omega (arith, subst (λ (n : ℕ). 2 * (q * n) ≤ q * q + n * n) e (apart q (p - q)))

-- Cauchy and Schwarz: (wa + hb)² ≤ (w² + h²)(a² + b²)
product_le : (w h a b : ℕ) → (w * a + h * b) * (w * a + h * b) ≤ (w * w + h * h) * (a * a + b * b)
product_le w h a b = omega (arith, twice-le (w * b) (h * a))

below-diagonal : (s n k : ℕ) → 0 < n → s * s ≤ k * n → k ≤ 8388608 → 64 * s * (64 * s) < 185364 * 185364 * n
below-diagonal s n k p h l = omega (arith, mul-le-mul_right n l)

-- twice the reach covers every pixel of the box
square_le : (v : Vector) (w h i j : ℕ) → i < w → j < h → squared (nat_abs (pos 32 *ℤ along w h v i j)) ≤ squared (64 * reach w h v)
square_le v w h i j p q =
    let a : ℕ = nat_abs v.x in
    let b : ℕ = nat_abs v.y in
    let s : Bool = is_negative v.x in
    let t : Bool = is_negative v.y in
    let same : vector (signed s a) (signed t b) ≡ v = ap₂ vector (as-signed v.x) (as-signed v.y) in
    let l : 32 * (odd_of s w i * a + odd_of t h j * b) ≤ 64 * (w * a + h * b) = weighted (odd_of s w i) (odd_of t h j) a b (odd-below s w i p) (odd-below t h j q) in
    subst (λ (u : Vector). squared (nat_abs (pos 32 *ℤ along w h u i j)) ≤ squared (64 * (w * a + h * b))) same
    (rw (square-is s t w h a b i j p q) (mul-le-mul l l))
  where
    weighted : (m n a b : ℕ) → m < 2 * w → n < 2 * h → 32 * (m * a + n * b) ≤ 64 * (w * a + h * b)
    weighted m n a b p q =
        let p' : m ≤ 2 * w = omega arith in
        let q' : n ≤ 2 * h = omega arith in
        omega (arith, mul-le-mul_right a p', mul-le-mul_right b q')

module _ (v : Vector) (w h : ℕ) (b : Box w h) (p : 0 < norm v) where
  reach-below : squared (64 * reach w h v) < 185364 * 185364 * norm v
  unfolding norm
  reach-below =
      below-diagonal (reach w h v) (norm v) (w * w + h * h) p (product_le w h (nat_abs v.x) (nat_abs v.y))
      (omega (arith, mul-le-mul b.width b.width, mul-le-mul b.height b.height))

  line-length-le : line_length w h v ≤ 185363
  unfolding line_length
  line-length-le = root-most (norm v) (squared (64 * reach w h v)) 185363 p reach-below

  line-location-le : (i j : ℕ) → i < w → j < h → location_by (line_rule w h v) i j ≤ 185363
  unfolding location_by
  line-location-le i j hi hj =
      root-most (norm v) (squared (nat_abs (pos 32 *ℤ along w h v i j))) 185363 p (lt_of_le_of_lt (square_le v w h i j hi hj) reach-below)

-- ---- a circle's center is at most 1,000% of the largest box from 0
from_le : (c : ℤ) (m : ℕ) → from c m ≤ nat_abs c + m
from_le (pos n) m = rw (diff-of m n, diff-abs m n) (omega arith)
from_le (negsuc n) m = omega arith

pub coordinate-le : (c : Coordinate) (pixels : ℕ) → coordinate_in c ≡ true → pixels ≤ 2048 → nat_abs (coordinate_units c pixels) ≤ 1310720
coordinate-le (C.Length t) pixels e h = omega (arith, length-bound t (length-range t e))
coordinate-le (C.Percentage p) pixels e h = omega (arith, percentage-bound p (64 * pixels) (percentage-range p e))

pub record Around (c : Center) : Type 0 where
  pub x : nat_abs c.x ≤ 1310720
  pub y : nat_abs c.y ≤ 1310720

corner-le : (c : Center) (m n : ℕ) → Around c → m ≤ 131072 → n ≤ 131072 → to_corner c m n ≤ 4157528342528
corner-le c m n a p q =
    let f : from c.x m ≤ 1441792 = omega (arith, from_le c.x m, a.x) in
    let g : from c.y n ≤ 1441792 = omega (arith, from_le c.y n, a.y) in
    omega (arith, mul-le-mul f f, mul-le-mul g g)

root-le-longest : (x : ℕ) → x ≤ 4157528342528 → root_of 1 x ≤ longest
root-le-longest x h = root-most 1 x longest (omega arith) (omega arith)

radius-le : (s : Size) (w h : ℕ) (c : Center) → Box w h → Around c → size_in s ≡ true → radius_of s w h c ≤ longest
unfolding radius_of
radius-le (Z.Extent E.ClosestSide) w h c b a e = omega (arith, from_le c.x 0, a.x)
radius-le (Z.Extent E.FarthestSide) w h c b a e =
    omega (arith, from_le c.x 0, from_le c.x (64 * w), from_le c.y 0, from_le c.y (64 * h), a.x, a.y, b.width, b.height)
radius-le (Z.Extent E.ClosestCorner) w h c b a e =
    root-le-longest (of_corners min w h c) (omega (arith, corner-le c 0 0 a (omega arith) (omega arith)))
radius-le (Z.Extent E.FarthestCorner) w h c b a e =
    let m : 64 * w ≤ 131072 = omega (arith, b.width) in
    let n : 64 * h ≤ 131072 = omega (arith, b.height) in
    root-le-longest (of_corners max w h c)
    (omega (arith, corner-le c 0 0 a (omega arith) (omega arith), corner-le c (64 * w) 0 a m (omega arith), corner-le c 0 (64 * h) a (omega arith) n, corner-le c (64 * w) (64 * h) a m n))
radius-le (Z.Length t) w h c b a e = omega (arith, length-bound t (radius-range t e).1)

circle-location-le : (c : Center) (w h i j : ℕ) → Box w h → Around c → i < w → j < h → location_by (circle_rule c) i j ≤ longest
unfolding location_by
circle-location-le c w h i j b a p q =
    root-le-longest (to_corner c (64 * i + 32) (64 * j + 32)) (corner-le c (64 * i + 32) (64 * j + 32) a (omega (arith, b.width)) (omega (arith, b.height)))

around : (x y : Coordinate) (w h : ℕ) → Box w h → coordinate_in x ≡ true → coordinate_in y ≡ true → Around (center_of x y w h)
around x y w h b p q = record { x = coordinate-le x w p b.width; y = coordinate-le y h q b.height }

-- ---- the whole
some-scale : (s : Shape) (w h : ℕ) → Box w h → 0 < (rule_of s w h).scale
unfolding rule_of
some-scale (Sh.Linear d) w h b = some-norm d w h b
some-scale (Sh.Circle s x y) w h b = omega arith

length-le : (s : Shape) (w h : ℕ) → Box w h → shape_in s ≡ true → length_of s w h ≤ longest
unfolding length_of
length-le (Sh.Linear d) w h b e = omega (arith, line-length-le (vector_of d w h) w h b (some-norm d w h b))
length-le (Sh.Circle s x y) w h b e =
    let p = circle-range s x y e in
    radius-le s w h (center_of x y w h) b (around x y w h b p.1 p.2) p.0

location-le : (s : Shape) (w h i j : ℕ) → Box w h → shape_in s ≡ true → i < w → j < h → location_by (rule_of s w h) i j ≤ longest
unfolding rule_of
location-le (Sh.Linear d) w h i j b e p q = omega (arith, line-location-le (vector_of d w h) w h b (some-norm d w h b) i j p q)
location-le (Sh.Circle s x y) w h i j b e p q =
    let r = circle-range s x y e in
    circle-location-le (center_of x y w h) w h i j b (around x y w h b r.1 r.2) p q

pub bounds : Bounds
bounds = record {
  some-scale = some-scale;
  length = length-le;
  location = location-le;
  length-position = λ t e. omega (arith, length-bound t (length-range t e));
  percentage-position = λ p line e h. omega (arith, percentage-bound p line (percentage-range p e));
  whole = omega arith;
  biased = λ z h. (omega (arith, biased-high z (omega arith)), biased-is z bias (omega arith));
}

-- the two facts by which a pixel's exact location lies from its location up to one unit more: with the location the rule holds, with one
-- more it does not
pub location-is : (s : Shape) (w h i j : ℕ) → Box w h → IsRoot (rule_of s w h).scale ((rule_of s w h).square i j) (location_by (rule_of s w h) i j)
unfolding location_by
location-is s w h i j b = root_is (rule_of s w h).scale ((rule_of s w h).square i j) (some-scale s w h b)

-- ---- lines as the code holds them
biased-norm : (v : SignedVector) → Bounded v → 0 < norm (vector_in v)
biased-norm v b = rw (norm-is v.left v.up v.x v.y) (norm-some v.x v.y b.some)

biased-corner : (c : BiasedCenter) → Near c → (m n : ℕ) → m ≤ 131072 → n ≤ 131072 → to_corner (center_in c) m n < 9007199254740992
biased-corner c near m n p q =
    let f : from (unbiased c.x) m ≤ 67108863 = omega (arith, from-below c.x m near.x p) in
    let g : from (unbiased c.y) n ≤ 67108863 = omega (arith, from-below c.y n near.y q) in
    omega (arith, mul-le-mul f f, mul-le-mul g g)

-- the rule of a line has a scale that is not 0, and its locations are small enough to be biased
pub sound-scale : (l : Line) (w h : ℕ) → Sound l → 0 < (rule_in l w h).scale
sound-scale (L.Straight v) w h b = biased-norm v b
sound-scale (L.Circle c) w h b = omega arith

pub sound-location : (l : Line) (w h i j : ℕ) → Sound l → Box w h → i < w → j < h → location_by (rule_in l w h) i j ≤ 94906265
unfolding location_by
sound-location (L.Straight v) w h i j b box p q = omega (arith, line-location-le (vector_in v) w h box (biased-norm v b) i j p q)
sound-location (L.Circle c) w h i j near box p q =
    root-most 1 (to_corner (center_in c) (64 * i + 32) (64 * j + 32)) 94906265 (omega arith)
    (omega (arith, biased-corner c near (64 * i + 32) (64 * j + 32) (omega (arith, box.width)) (omega (arith, box.height))))
