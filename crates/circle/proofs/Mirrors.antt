-- Rows that are equally far from a circle's center are the same, and so are the pixels of columns that are.
-- Assumes nothing.
use mathlib.Core.Path.{◌≡◌, refl, sym, ap, ◌∙◌}
use mathlib.Core.List.{List, ◌++◌}
use Prim.Native.Nat.{ℕ, ◌+◌, ◌-◌, ◌*◌, ◌≤◌, ◌<◌}
use native.Mathlib.Nat.{zero-add}
use native.Mathlib.Omega.{arith}
use lib.ListN.{length, take, drop}
use Rattle.root.specs.Root.{root_of}
use Rattle.line.specs.Location.{location_by}
use Rattle.line.specs.declared.BiasedCenter.{BiasedCenter}
use Rattle.line.specs.declared.Line.TheVariants as L
use Rattle.words.specs.Word.{word_bytes}
use Rattle.ramp.specs.Ramp.{color_in}
use Rattle.picture.specs.Picture.{row, part, strip, patched}
use Rattle.picture.proofs.Rows.{row_more, row-part, row-length, part-add, strip-length, times-room}
use Rattle.picture.proofs.Patches.{patch-part}
use Rattle.picture.proofs.Turns.{pixel-step, copied-step}
use Rattle.rows.specs.Pixel.{ramp_pixel}
use Rattle.rows.proofs.Pixels.{four}
use Rattle.circleroots.specs.Squares.{square_of, Mirrored}
use Rattle.circle.specs.Circular.{Halved, Symmetric}

-- ---- any pixels
-- the pixels before pixel k, pixel k, and those after it
row-split : (px : ℕ → ℕ → List ℕ) (i k j : ℕ) → k < i → row px i j ≡ row px k j ++ px k j ++ part px (k + 1) (i - (k + 1)) j
row-split px i k j l =
    let e : i ≡ k + 1 + (i - (k + 1)) = omega arith in
    row-part px i j ∙ ap (λ (m : ℕ). part px 0 m j) e ∙ part-add px 0 (k + 1) (i - (k + 1)) j ∙ rw (zero-add, ← row-part, row_more)

-- a turn of a loop over a row from `at` on: pixel i is copied from its mirror image, pixel k, which stands before it
pub image-turn : (px : ℕ → ℕ → List ℕ) (w n j at i k : ℕ) (d b b' : List ℕ) → Symmetric px w n j → n ≤ i → k < i → i + k + 1 ≡ w → at + 4 * w ≤ length d
    → b ≡ patched d at (row px i j) → b' ≡ patched b (at + 4 * i) (take 4 (drop (at + 4 * k) b)) → b' ≡ patched d at (row px (i + 1) j)
image-turn px w n j at i k d b b' s p l e room q put =
    let r : at + 4 * k ≡ at + length (row px k j) = rw (row-length px s.four) in
    let v : take 4 (drop (at + 4 * k) b) ≡ px k j =
    rw r (ap (λ (x : List ℕ). take 4 (drop (at + length (row px k j)) x)) (q ∙ ap (patched d at) (row-split px i k j l))
    ∙ patch-part d (row px k j) (px k j) (part px (k + 1) (i - (k + 1)) j) at 4 (s.four k j) (omega arith)) in
    pixel-step px s.four d b b' at (at + 4 * i) i j refl (omega arith) q (put ∙ ap (patched b (at + 4 * i)) (v ∙ sym (s.same i k p e)))

-- ---- around a center
module _ (ramp : List ℕ) (c : BiasedCenter) (w h : ℕ) where
  pub same-pixel : (i j m : ℕ) → square_of c.y j ≡ square_of c.y m → ramp_pixel ramp (L.Circle c) w h i j ≡ ramp_pixel ramp (L.Circle c) w h i m
  unfolding location_by
  same-pixel i j m e = ap (λ (n : ℕ). word_bytes (color_in ramp (root_of 1 (square_of c.x i + n)))) e

  -- where columns are, so are the pixels of a row
  pub symmetric : (n j : ℕ) → Halved c.x w n → Symmetric (ramp_pixel ramp (L.Circle c) w h) w n j
  unfolding location_by
  symmetric n j s = record {
    four = four ramp (L.Circle c) w h;
    same = λ i k p e. ap (λ (m : ℕ). word_bytes (color_in ramp (root_of 1 (m + square_of c.y j)))) (s.same i k p e);
  }

  -- a turn of a loop over rows from a up to b: row j is copied from its mirror
  pub mirror-turn : (a b j m o : ℕ) (d x x' : List ℕ) → Mirrored c.y a j m → m < j → j < b → o ≡ 4 * w * (j - a) → 4 * w * (b - a) ≤ length d
      → x ≡ patched d 0 (strip (ramp_pixel ramp (L.Circle c) w h) w a j) → x' ≡ patched x o (take (4 * w) (drop (4 * w * (m - a)) x))
      → x' ≡ patched d 0 (strip (ramp_pixel ramp (L.Circle c) w h) w a (j + 1))
  mirror-turn a b j m o d x x' s l p e room q put =
      let px : (ℕ → ℕ → List ℕ) = ramp_pixel ramp (L.Circle c) w h in
      copied-step px (four ramp (L.Circle c) w h) d x x' 0 o (4 * w * (m - a)) w a m j s.after l (λ i k. same-pixel i j m s.same)
      (rw (strip-length px (four ramp (L.Circle c) w h) w a m) (omega arith)) (rw (strip-length px (four ramp (L.Circle c) w h) w a j) (omega arith))
      (omega (arith, times-room (4 * w) a b j (omega (arith, s.after)) p)) q put
