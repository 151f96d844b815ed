-- The pixels that the code draws, and the rows.
-- Assumes nothing.
use mathlib.Core.Path.{◌≡◌, refl, ap, ◌∙◌}
use mathlib.Core.List.{List}
use Prim.Native.Nat.{ℕ, ◌+◌, ◌-◌, ◌*◌, ◌≤◌, ◌<◌}
use native.Mathlib.Omega.{arith}
use lib.ListN.{length}
use Rattle.line.specs.declared.Line.{Line}
use Rattle.picture.specs.Picture.{row, strip, patched}
use Rattle.picture.proofs.Rows.{row-length, strip-more, strip-length, times-room}
use Rattle.picture.proofs.Patches.{patch-step}
use Rattle.rows.specs.Pixel.{ramp_pixel}

-- four bytes to a pixel
pub four : (ramp : List ℕ) (l : Line) (w h i j : ℕ) → length (ramp_pixel ramp l w h i j) ≡ 4
four ramp l w h i j = refl

-- a turn of a loop over rows from a on: row j is put behind the rows up to j
pub rows-turn : (px : ℕ → ℕ → List ℕ) → ((i j : ℕ) → length (px i j) ≡ 4) → (w a b j o : ℕ) (d c c' r : List ℕ) → a ≤ j → j < b → o ≡ 4 * w * (j - a)
    → 4 * w * (b - a) ≤ length d → c ≡ patched d 0 (strip px w a j) → r ≡ row px w j → c' ≡ patched c o r → c' ≡ patched d 0 (strip px w a (j + 1))
rows-turn px each w a b j o d c c' r from p e room q same put =
    rw (strip-more px w a j from)
    (patch-step d (strip px w a j) (row px w j) c c' 0 o (rw (strip-length px each w a j) (omega arith))
    (rw (row-length px each w j) (omega (arith, times-room (4 * w) a b j from p))) q (put ∙ ap (patched c o) same))
