-- Demand 3 follows from the equation for the bytes.
-- Assumes nothing.
use mathlib.Core.Path.{◌≡◌, refl, sym, ap, ◌∙◌, subst, fun_ext}
use mathlib.Core.Bool.{Bool}
use mathlib.Core.List.{List, map}
use Prim.Native.Nat.{ℕ, ◌+◌, ◌-◌, ◌*◌, ◌≤◌, ◌<◌}
use native.Mathlib.Nat.{add-zero, sub-zero}
use native.Mathlib.Omega.{arith}
use lib.IntN.{pos}
use lib.ListN.{length, get_or, replicate}
use Rattle.root.proofs.Laws.{root_is}
use Rattle.line.specs.Location.{Rule, location_by}
use Rattle.stops.specs.declared.PlacedStop.{PlacedStop}
use Rattle.color.specs.Stop.{Channel, red, green, blue, alpha, stop_of}
use Rattle.color.specs.Byte.{byte_of}
use Rattle.color.specs.Paint.{Paint, paint_of, paint_at}
use Rattle.color.proofs.Paint.{paint-accurate}
use Rattle.picture.specs.Picture.{strip, padded}
use Rattle.picture.proofs.Patches.{refused}
use Rattle.picture.proofs.Rows.{buffer-at}
use Rattle.rows.specs.Pixel.{pixel_of}
use Rattle.drawing.specs.Drawn.{bytes_at, AtPixel, PixelAccurate, DrawnRows, Drawn}
use Rattle.drawing.specs.Inner.{Painted}

module _ (rule : Rule) (paint : Paint) (w a b n : ℕ) (after : List ℕ) (e : after ≡ padded n (strip (pixel_of rule paint) w a b)) where
  byte_left : (i j c : ℕ) → i < w → a ≤ j → j < b → c < 4 → get_or after (4 * ((j - a) * w + i) + c) 0 ≡ get_or (pixel_of rule paint i j) c 0
  byte_left i j c hi ha hb hc =
      ap (λ (l : List ℕ). get_or l (4 * ((j - a) * w + i) + c) 0) e ∙ buffer-at (pixel_of rule paint) (λ i j. refl) w a b 0 n i j c refl hi ha hb hc

  -- the bytes that stand at a pixel are those of its location
  bytes_left : (i j : ℕ) → i < w → a ≤ j → j < b → byte_of (paint_at paint (pos (location_by rule i j))) ≡ bytes_at after w i (j - a)
  bytes_left i j hi ha hb = fun_ext each
    where
      each : (c : Channel) → byte_of (paint_at paint (pos (location_by rule i j))) c ≡ bytes_at after w i (j - a) c
      each red = sym (ap (λ (k : ℕ). get_or after k 0) (sym (add-zero (4 * ((j - a) * w + i)))) ∙ byte_left i j 0 hi ha hb (omega arith))
      each green = sym (byte_left i j 1 hi ha hb (omega arith))
      each blue = sym (byte_left i j 2 hi ha hb (omega arith))
      each alpha = sym (byte_left i j 3 hi ha hb (omega arith))

module _ (answer : ℕ) (rule : Rule) (w a b : ℕ) (before after : List ℕ) where
  -- a call that is answered with 0
  pub drawn : (repeating : Bool) (l : List PlacedStop) → 0 < rule.scale → answer ≡ 0 → Painted rule repeating l w a b before after
      → DrawnRows answer rule (paint_of repeating (map stop_of l)) w a b 0 before after
  unfolding location_by
  drawn repeating l p z q = record {
    reply = sym z;
    bytes_left = q.left;
    pixels = λ _ i j hi ha hb. subst (PixelAccurate rule (paint_of repeating (map stop_of l)) i j)
        (bytes_left rule (paint_of repeating (map stop_of l)) w a b (length before) after q.left i j hi ha hb)
        (paint-accurate l q.colors q.two q.ordered (pos (location_by rule i j)) (AtPixel rule i j)
        (λ claim f. record { exact-location = root_is rule.scale (rule.square i j) p; accurate = f }) repeating);
  }

  -- .. and one that is refused
  pub not-drawn : (paint : Paint) (r : ℕ) → r ≡ answer → (r ≡ 0 → ⊥) → after ≡ replicate (length before) 0
      → DrawnRows answer rule paint w a b r before after
  not-drawn paint r e n z = record {
    reply = e;
    bytes_left = z ∙ refused r (strip (pixel_of rule paint) w a b) (length before) n;
    pixels = λ k. absurd (n k);
  }

-- ---- a whole picture: row j of it is row j of the buffer
pub whole-pixels : {answer : ℕ} {rule : Rule} {paint : Paint} {w h r : ℕ} {before after : List ℕ} → Drawn answer rule paint w h r before after
    → r ≡ 0 → (i j : ℕ) → i < w → j < h → PixelAccurate rule paint i j (bytes_at after w i j)
whole-pixels {rule = rule} {paint = paint} {w = w} {after = after} d z i j hi hj =
    subst (λ (k : ℕ). PixelAccurate rule paint i j (bytes_at after w i k)) (sub-zero j) (d.pixels z i j hi (omega arith) hj)
