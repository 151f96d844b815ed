-- Locations along a horizontal or a vertical line are 64 units apart, and the rows that a table with such a stride gives.
-- Assumes nothing.
use mathlib.Core.Path.{◌≡◌, sym, ap, ap₂, ◌∙◌}
use mathlib.Core.Bool.{Bool, true, false}
use mathlib.Core.List.{List}
use Prim.Native.Nat.{ℕ, ◌+◌, ◌-◌, ◌*◌, ◌≤◌, ◌<◌}
use native.Mathlib.Nat.{mul-pos, zero-add}
use native.Mathlib.Omega.{arith}
use lib.ListN.{length, get_or}
use Rattle.root.specs.Root.{root_of}
use Rattle.root.proofs.Laws.{root-eq}
use Rattle.line.specs.Location.{location_by, squared}
use Rattle.line.specs.Represented.{odd_of, rule_in, Bounded}
use Rattle.line.specs.declared.SignedVector.{SignedVector}
use Rattle.line.specs.declared.Line.TheVariants as L
use Rattle.line.proofs.Lines.{norm-is, square-is}
use Rattle.picture.specs.Picture.{row, copies, strip}
use Rattle.picture.proofs.Rows.{joined_same, strip-copies}
use Rattle.words.specs.Word.{word_bytes}
use Rattle.ramp.specs.Ramp.{color_in, Spread}
use Rattle.rows.specs.Pixel.{ramp_pixel}
use Rattle.axisrows.specs.Axis.{from_start, first_of, by_column, by_row}

-- ---- locations
-- the root of a square over a square
exact-root : (q x : ℕ) → 0 < x → q ≡ root_of (x * x) (squared (q * x))
exact-root q x h =
    let p : 0 < x * x = mul-pos h h in
    root-eq (x * x) (squared (q * x)) q p (record { low = omega arith; high = omega arith })

module _ (v : SignedVector) (w h i j : ℕ) (some : Bounded v) (p : i < w) (q : j < h) where
  by-root : location_by (rule_in (L.Straight v) w h) i j ≡ root_of (v.x * v.x + v.y * v.y) (squared (32 * (odd_of v.left w i * v.x + odd_of v.up h j * v.y)))
  unfolding location_by
  by-root = ap₂ root_of (norm-is v.left v.up v.x v.y) (square-is v.left v.up w h v.x v.y i j p q)

  pub horizontal-is : v.y ≡ 0 → location_by (rule_in (L.Straight v) w h) i j ≡ 32 * odd_of v.left w i
  horizontal-is e =
      let o : ℕ = odd_of v.left w i in
      let n : v.x * v.x + 0 * 0 ≡ v.x * v.x = omega arith in
      let m : 32 * (o * v.x + odd_of v.up h j * 0) ≡ 32 * o * v.x = omega arith in
      by-root ∙ rw (e, n, m) (sym (exact-root (32 * o) v.x (omega (arith, some.some))))

  pub vertical-is : v.x ≡ 0 → location_by (rule_in (L.Straight v) w h) i j ≡ 32 * odd_of v.up h j
  vertical-is e =
      let o : ℕ = odd_of v.up h j in
      let n : 0 * 0 + v.y * v.y ≡ v.y * v.y = omega arith in
      let m : 32 * (odd_of v.left w i * 0 + o * v.y) ≡ 32 * o * v.y = omega arith in
      by-root ∙ rw (e, n, m) (sym (exact-root (32 * o) v.y (omega (arith, some.some))))

-- the entry of a column, and of a row in a table of rows a up to b
column-entry : (back : Bool) (w i : ℕ) → i < w → (32 + from_start back w i * 64 ≡ 32 * odd_of back w i) × (from_start back w i < w)
column-entry true w i l = (omega arith, omega arith)
column-entry false w i l = (omega arith, omega arith)

mirrored : (a b j : ℕ) → a ≤ j → j < b → b - a - 1 - (j - a) ≡ b - 1 - j
mirrored a b j l m = omega arith

row-entry : (back : Bool) (h a b j : ℕ) → a ≤ j → j < b → b ≤ h
    → (32 + 64 * first_of back h a b + from_start back (b - a) (j - a) * 64 ≡ 32 * odd_of back h j) × (from_start back (b - a) (j - a) < b - a)
row-entry true h a b j l m n = rw (mirrored a b j l m) (omega arith, omega arith)
row-entry false h a b j l m n = (omega arith, omega arith)

-- ---- rows
module _ (ramp : List ℕ) where
  -- an entry's bytes are those of the color at its location
  entry-pixel : (base : ℕ) (t : List ℕ) (k s : ℕ) → Spread (color_in ramp) base 64 t → k < length t → base + k * 64 ≡ s
      → word_bytes (get_or t k 0) ≡ word_bytes (color_in ramp s)
  entry-pixel base t k s sp l e = ap word_bytes (sp k l ∙ ap (color_in ramp) e)

  module _ (v : SignedVector) (w h : ℕ) (some : Bounded v) (t : List ℕ) where
    -- every row of a horizontal line
    pub horizontal-row : v.y ≡ 0 → length t ≡ w → Spread (color_in ramp) 32 64 t → (j : ℕ) → j < h
        → row (ramp_pixel ramp (L.Straight v) w h) w j ≡ row (by_column t v.left w) w 0
    unfolding row
    horizontal-row e n sp j q =
        joined_same (λ (i : ℕ). ramp_pixel ramp (L.Straight v) w h i j) (λ (i : ℕ). by_column t v.left w i 0) 0 0 w
        (λ i l. rw zero-add (pixel i l))
      where
        pixel : (i : ℕ) → i < w → ramp_pixel ramp (L.Straight v) w h i j ≡ by_column t v.left w i 0
        pixel i l =
            let c = column-entry v.left w i l in
            sym (entry-pixel 32 t (from_start v.left w i) (location_by (rule_in (L.Straight v) w h) i j) sp (omega (arith, c.1)) (c.0 ∙ sym (horizontal-is v w h i j some l q e)))

    pub horizontal-strip : v.y ≡ 0 → length t ≡ w → Spread (color_in ramp) 32 64 t → (a b : ℕ) → b ≤ h
        → strip (ramp_pixel ramp (L.Straight v) w h) w a b ≡ copies (b - a) (row (by_column t v.left w) w 0)
    horizontal-strip e n sp a b q = strip-copies (ramp_pixel ramp (L.Straight v) w h) w a b _ (λ j l m. horizontal-row e n sp j (omega arith))

    -- the rows of a vertical line
    pub vertical-strip : v.x ≡ 0 → (a b base : ℕ) → length t ≡ b - a → base ≡ 32 + 64 * first_of v.up h a b → Spread (color_in ramp) base 64 t → b ≤ h
        → strip (by_row t v.up a b) w a b ≡ strip (ramp_pixel ramp (L.Straight v) w h) w a b
    unfolding strip row
    vertical-strip e a b base n f sp q =
        joined_same (row (by_row t v.up a b) w) (row (ramp_pixel ramp (L.Straight v) w h) w) a a (b - a)
        (λ k l. joined_same (λ (i : ℕ). by_row t v.up a b i (a + k)) (λ (i : ℕ). ramp_pixel ramp (L.Straight v) w h i (a + k)) 0 0 w
        (λ i m. rw zero-add (pixel i (a + k) m (omega arith) (omega arith))))
      where
        pixel : (i j : ℕ) → i < w → a ≤ j → j < b → by_row t v.up a b i j ≡ ramp_pixel ramp (L.Straight v) w h i j
        pixel i j m l o =
            let c = row-entry v.up h a b j l o q in
            entry-pixel base t (from_start v.up (b - a) (j - a)) (location_by (rule_in (L.Straight v) w h) i j) sp (omega (arith, c.1))
            (ap (λ (z : ℕ). z + from_start v.up (b - a) (j - a) * 64) f ∙ c.0 ∙ sym (vertical-is v w h i j some m (omega arith) e))
