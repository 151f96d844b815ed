-- Pixels that a shift makes the same, and rows that are copied by it.
-- Assumes nothing.
use mathlib.Core.Path.{◌≡◌, refl, sym, ap, ◌∙◌}
use mathlib.Core.Bool.{Bool, true, false, beq, true≢false, false≢true}
use mathlib.Core.List.{List, ◌++◌}
use Prim.Native.Nat.{ℕ, ◌+◌, ◌-◌, ◌*◌, ◌≤◌, ◌<◌}
use native.Mathlib.Nat.{zero-add, add-zero, mul-le-mul_left}
use native.Mathlib.Omega.{arith}
use lib.ListN.{length, take, drop}
use Rattle.root.specs.Root.{root_of}
use Rattle.line.specs.Location.{location_by, norm, squared}
use Rattle.line.specs.Represented.{odd_of, vector_in}
use Rattle.line.specs.declared.SignedVector.{SignedVector}
use Rattle.line.specs.declared.Line.TheVariants as L
use Rattle.line.proofs.Lines.{square-is}
use Rattle.words.specs.Word.{word_bytes}
use Rattle.ramp.specs.Ramp.{color_in}
use Rattle.picture.specs.Picture.{row, part, strip, patched}
use Rattle.picture.proofs.Rows.{row-part, part-add, part_length, parts-alike, strip-length}
use Rattle.picture.proofs.Patches.{patch-part, patch-self, patch-over, patch-kept}
use Rattle.picture.proofs.Turns.{parts-step, row-of-strip}
use Rattle.rows.specs.Pixel.{ramp_pixel}
use Rattle.rows.proofs.Pixels.{four}
use Rattle.straight.specs.declared.Shift.{Shift}
use Rattle.straight.specs.Shift.{Stands, Next}

-- ---- how far a pixel is along the vector
-- c pixels on, the distance from the side that the direction starts at is 2c more, or 2c less where it goes back
on : (w c p : ℕ) → odd_of false w (c + p) ≡ odd_of false w p + 2 * c
on w c p = omega arith

back : (w c p : ℕ) → c + p < w → odd_of true w p ≡ odd_of true w (c + p) + 2 * c
back w c p h = omega arith

-- r rows on is as far as c columns on
pub as-far : (m n x y c r : ℕ) → x * c ≡ y * r → m * x + (n + 2 * r) * y ≡ (m + 2 * c) * x + n * y
as-far m n x y c r e = omega arith

module _ (w h x y r c p k : ℕ) (e : x * c ≡ y * r) (inside : c + p < w) (below : r + k < h) where
  -- where the signs are the same, pixel p is as far as the pixel c columns on, r rows above
  far-ahead : (s t : Bool) → beq s t ≡ true → odd_of s w p * x + odd_of t h (r + k) * y ≡ odd_of s w (c + p) * x + odd_of t h k * y
  far-ahead true true q = rw (back w c p inside, back h r k below) (sym (as-far _ _ x y c r e))
  far-ahead true false q = absurd (false≢true q)
  far-ahead false true q = absurd (false≢true q)
  far-ahead false false q = rw (on w c p, on h r k) (as-far _ _ x y c r e)

  -- where they differ, the pixel c columns on is as far as pixel p, r rows above
  far-behind : (s t : Bool) → beq s t ≡ false → odd_of s w (c + p) * x + odd_of t h (r + k) * y ≡ odd_of s w p * x + odd_of t h k * y
  far-behind true true q = absurd (true≢false q)
  far-behind true false q = rw (back w c p inside, on h r k) (as-far _ _ x y c r e)
  far-behind false true q = rw (on w c p, back h r k below) (sym (as-far _ _ x y c r e))
  far-behind false false q = absurd (true≢false q)

-- pixels that are as far along the vector are the same, in boxes of two widths too
pub same-pixel : (ramp : List ℕ) (v : SignedVector) (w u h i j k m : ℕ) → i < w → j < h → k < u → m < h
    → odd_of v.left w i * v.x + odd_of v.up h j * v.y ≡ odd_of v.left u k * v.x + odd_of v.up h m * v.y
    → ramp_pixel ramp (L.Straight v) w h i j ≡ ramp_pixel ramp (L.Straight v) u h k m
unfolding location_by
same-pixel ramp v w u h i j k m hi hj hk hm e =
    ap (λ (q : ℕ). word_bytes (color_in ramp (root_of (norm (vector_in v)) q)))
    (square-is v.left v.up w h v.x v.y i j hi hj
    ∙ ap (λ (q : ℕ). squared (32 * q)) e
    ∙ sym (square-is v.left v.up u h v.x v.y k m hk hm))

module _ (ramp : List ℕ) (v : SignedVector) (w h : ℕ) where
  module _ (r c k n : ℕ) (e : v.x * c ≡ v.y * r) (inside : c + n ≤ w) (below : r + k < h) where
    -- the first n pixels of a row are those of the earlier row from pixel c on
    moved-ahead : beq v.left v.up ≡ true → part (ramp_pixel ramp (L.Straight v) w h) 0 n (r + k) ≡ part (ramp_pixel ramp (L.Straight v) w h) c n k
    moved-ahead q =
        parts-alike (ramp_pixel ramp (L.Straight v) w h) (ramp_pixel ramp (L.Straight v) w h) 0 c n (r + k) k
        (λ p l. rw zero-add
        (same-pixel ramp v w w h p (r + k) (c + p) k (omega arith) below (omega arith) (omega arith)
        (far-ahead w h v.x v.y r c p k e (omega arith) below v.left v.up q)))

    -- or its pixels from pixel c on are the first n of the earlier row
    moved-behind : beq v.left v.up ≡ false → part (ramp_pixel ramp (L.Straight v) w h) c n (r + k) ≡ part (ramp_pixel ramp (L.Straight v) w h) 0 n k
    moved-behind q =
        parts-alike (ramp_pixel ramp (L.Straight v) w h) (ramp_pixel ramp (L.Straight v) w h) c 0 n (r + k) k
        (λ p l. rw zero-add
        (same-pixel ramp v w w h (c + p) (r + k) p k (omega arith) below (omega arith) (omega arith)
        (far-behind w h v.x v.y r c p k e (omega arith) below v.left v.up q)))

-- ---- where the row r rows above row j stands, with n bytes to a row, from row a on
less : (n q r f : ℕ) → f + n * r ≡ n * (q + r) → f ≡ n * q
less n q r f e = omega arith

pub row_before : (n a j r f o : ℕ) → a + r ≤ j → o ≡ n * (j - a) → f + n * r ≡ o → f ≡ n * (j - r - a)
row_before n a j r f o h e g =
    let m : j - a ≡ j - r - a + r = omega arith in
    less n (j - r - a) r f (g ∙ e ∙ ap (λ (k : ℕ). n * k) m)

-- ---- what stands in a buffer
module _ (px : ℕ → ℕ → List ℕ) (each : (i j : ℕ) → length (px i j) ≡ 4) where
  -- n pixels of a row that stands, from pixel i on
  pub part-stands : (w k i n m from : ℕ) (d : List ℕ) → i + n + m ≡ w → from ≤ length d → Stands (row px w k) from d
      → take (4 * n) (drop (from + 4 * i) d) ≡ part px i n k
  part-stands w k i n m from d e l s =
      let split : row px w k ≡ part px 0 i k ++ part px i n k ++ part px (i + n) m k =
      rw (row-part px w k, ← e, part-add px 0 (i + n) m k, part-add px 0 i n k, zero-add i, zero-add (i + n)) in
      let z : from + 4 * i ≡ from + length (part px 0 i k) = omega (arith, part_length px each 0 i k) in
      ap (λ (x : List ℕ). take (4 * n) (drop (from + 4 * i) x)) (s ∙ ap (patched d from) split)
      ∙ rw z (patch-part d (part px 0 i k) (part px i n k) (part px (i + n) m k) from (4 * n) (part_length px each i n k) l)

  -- row k of a strip that was written
  pub row-stands : (w a k j o : ℕ) (d b : List ℕ) → a ≤ k → k < j → o ≡ 4 * w * (k - a) → o + 4 * w ≤ length b → b ≡ patched d 0 (strip px w a j)
      → Stands (row px w k) o b
  row-stands w a k j o d b l m e h p =
      let z : o ≡ 0 + length (strip px w a k) = omega (arith, strip-length px each w a k) in
      let r : take (4 * w) (drop o b) ≡ row px w k = row-of-strip px each d b b 0 o w a k j l m z (omega arith) p in
      patch-self b o (4 * w) h ∙ ap (patched b o) r

  module _ (w a m b : ℕ) (d c : List ℕ) (some : a ≤ m) (most : m ≤ b) (room : 4 * w * (b - a) ≤ length d) (p : c ≡ patched d 0 (strip px w a m)) where
    shorter : length (strip px w a m) ≤ length (strip px w a b)
    shorter = rw (strip-length px each w a m, strip-length px each w a b) (mul-le-mul_left (4 * w) (omega arith))

    -- the first rows of a strip stand where they were written
    pub first-stand : Stands (strip px w a m) 0 c
    first-stand =
        let n : length (strip px w a b) ≡ 4 * w * (b - a) = strip-length px each w a b in
        p ∙ sym (patch-over d (strip px w a m) (strip px w a m) 0 (omega arith) (omega (arith, shorter))) ∙ ap (λ (x : List ℕ). patched x 0 (strip px w a m)) (sym p)

    -- the whole strip over its first rows
    pub all-drawn : (c' : List ℕ) → c' ≡ patched c 0 (strip px w a b) → c' ≡ patched d 0 (strip px w a b)
    all-drawn c' q =
        let n : length (strip px w a b) ≡ 4 * w * (b - a) = strip-length px each w a b in
        q ∙ ap (λ (x : List ℕ). patched x 0 (strip px w a b)) p ∙ patch-over d (strip px w a m) (strip px w a b) 0 shorter (omega arith)

-- ---- a row that is copied by a shift
module _ (ramp : List ℕ) (v : SignedVector) (s : Shift) (w h j from at : ℕ) (d b b' : List ℕ) (n : ℕ) (g : Next ramp v s w h j from at d) (e : n ≡ w - s.columns) where
  whole : {m : ℕ} → m ≡ w → patched d at (part (ramp_pixel ramp (L.Straight v) w h) 0 m j) ≡ patched d at (row (ramp_pixel ramp (L.Straight v) w h) w j)
  whole q = ap (λ (m : ℕ). patched d at (part (ramp_pixel ramp (L.Straight v) w h) 0 m j)) q ∙ ap (patched d at) (sym (row-part (ramp_pixel ramp (L.Straight v) w h) w j))

  pub ahead-drawn : beq v.left v.up ≡ true → b ≡ patched d at (take (4 * n) (drop (from + 4 * s.columns) d))
      → b' ≡ patched b (at + 4 * n) (part (ramp_pixel ramp (L.Straight v) w h) n s.columns j)
      → b' ≡ patched d at (row (ramp_pixel ramp (L.Straight v) w h) w j)
  ahead-drawn q put drawn =
      let px : (ℕ → ℕ → List ℕ) = ramp_pixel ramp (L.Straight v) w h in
      let each : ((i j : ℕ) → length (px i j) ≡ 4) = four ramp (L.Straight v) w h in
      let c : ℕ = s.columns in
      let k : ℕ = j - s.rows in
      let same : s.rows + k ≡ j = omega (arith, g.later) in
      let all : n + c ≡ w = omega (arith, g.narrow) in
      let copied : take (4 * n) (drop (from + 4 * c) d) ≡ part px 0 n j =
      part-stands px each w k c n 0 from d (omega arith) (omega (arith, g.apart, g.room)) g.stands
      ∙ sym (rw same at (moved-ahead ramp v w h s.rows c k n g.even (omega arith) (omega (arith, g.within)) q)) in
      parts-step px each d b b' at (at + 4 * n) 0 n c j refl (omega (arith, g.room)) (put ∙ ap (patched d at) copied) (rw zero-add drawn)
      ∙ whole all

  pub behind-drawn : beq v.left v.up ≡ false → b ≡ patched d at (part (ramp_pixel ramp (L.Straight v) w h) 0 s.columns j)
      → b' ≡ patched b (at + 4 * s.columns) (take (4 * n) (drop from b))
      → b' ≡ patched d at (row (ramp_pixel ramp (L.Straight v) w h) w j)
  behind-drawn q drawn put =
      let px : (ℕ → ℕ → List ℕ) = ramp_pixel ramp (L.Straight v) w h in
      let each : ((i j : ℕ) → length (px i j) ≡ 4) = four ramp (L.Straight v) w h in
      let c : ℕ = s.columns in
      let k : ℕ = j - s.rows in
      let same : s.rows + k ≡ j = omega (arith, g.later) in
      let all : c + n ≡ w = omega (arith, g.narrow) in
      let copied : take (4 * n) (drop from b) ≡ part px c n j =
      ap (λ (x : List ℕ). take (4 * n) (drop from x)) drawn
      ∙ patch-kept d (part px 0 c j) at from (4 * n) (omega (arith, g.apart)) (omega (arith, g.room))
      ∙ rw add-zero at (part-stands px each w k 0 n c from d (omega arith) (omega (arith, g.apart, g.room)) g.stands)
      ∙ sym (rw same at (moved-behind ramp v w h s.rows c k n g.even (omega arith) (omega (arith, g.within)) q)) in
      parts-step px each d b b' at (at + 4 * c) 0 c n j refl (omega (arith, g.room)) drawn (rw zero-add (put ∙ ap (patched b (at + 4 * c)) copied))
      ∙ whole all
