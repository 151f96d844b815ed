-- What is handed to the code for each kind of line, and ramps of the same colors.
-- Assumes nothing.
use mathlib.Core.Path.{◌≡◌, ap}
use mathlib.Core.List.{List}
use Prim.Native.Nat.{ℕ}
use Rattle.line.specs.Location.{location_by}
use Rattle.line.specs.Represented.{rule_in}
use Rattle.line.specs.declared.Line.{Line}
use Rattle.line.specs.declared.SignedVector.{SignedVector}
use Rattle.line.specs.declared.BiasedCenter.{BiasedCenter}
use Rattle.line.specs.declared.Line.TheVariants as L
use Rattle.picture.proofs.Rows.{strips-alike}
use Rattle.words.specs.Word.{word_bytes}
use Rattle.ramp.specs.Ramp.{Like}
use Rattle.rows.specs.Pixel.{Placed, Rows, Drawable, ramp_pixel, strip_of}
use Rattle.rows.specs.declared.Strip.{Strip}
use Rattle.straight.specs.Shift.{Straight}
use Rattle.circle.specs.Circular.{Circular}

module _ {l : Line} {z : Strip} {n : ℕ} (p : Placed l z.w z.h) (r : Rows z n) where
  pub straight : {v : SignedVector} → l ≡ L.Straight v → Straight v z n
  straight e = let q = rw e at p in record { bounded = q.sound; box = q.box; strip = r }

  pub circular : {c : BiasedCenter} → l ≡ L.Circle c → Circular c z n
  circular e = let q = rw e at p in record { near = q.sound; box = q.box; strip = r }

pub drawable : {rp : List ℕ} {l : Line} {z : Strip} {n : ℕ} → Drawable rp l z n → {k : Line} → l ≡ k → Drawable rp k z n
drawable d e = rw e at d

pub same-pixels : (q r : List ℕ) → Like q r → (l : Line) (w h i j : ℕ) → ramp_pixel r l w h i j ≡ ramp_pixel q l w h i j
same-pixels q r s l w h i j = ap word_bytes (s.colors (location_by (rule_in l w h) i j))

pub same-strip : (q r : List ℕ) → Like q r → (l : Line) (z : Strip) → strip_of r l z ≡ strip_of q l z
same-strip q r s l z =
    strips-alike (ramp_pixel r l z.w z.h) (ramp_pixel q l z.w z.h) z.w z.a z.b
    (λ i j h k m. same-pixels q r s l z.w z.h i j)
