-- Loops that draw, turn by turn: what stands in a buffer b that was d, and in b' after one pixel or one row more, which is written at o.
-- Assumes nothing.
use mathlib.Core.Path.{◌≡◌, sym, ap, ◌∙◌}
use mathlib.Core.List.{List}
use Prim.Native.Nat.{ℕ, ◌+◌, ◌*◌, ◌≤◌, ◌<◌}
use native.Mathlib.Omega.{arith}
use lib.ListN.{length, take, drop}
use Rattle.picture.specs.Picture.{row, part, strip, patched}
use Rattle.picture.proofs.Rows.{row_more, part-more, part-add, part_length, strip-more, strip-split, rows_alike, row-length}
use Rattle.picture.proofs.Patches.{patch-step, patch-part}

module _ {A : Type 0} (px : ℕ → ℕ → List A) (four : (i j : ℕ) → length (px i j) ≡ 4) (d b b' : List A) (at : ℕ) where
  -- one pixel more of row j
  pub pixel-step : (o w j : ℕ) → o ≡ at + 4 * w → o + 4 ≤ length d → b ≡ patched d at (row px w j) → b' ≡ patched b o (px w j)
      → b' ≡ patched d at (row px (w + 1) j)
  pixel-step o w j e h p q =
      rw (row_more px w j)
      (patch-step d (row px w j) (px w j) b b' at o (rw (row-length px four w j) e) (rw (four w j) h) p q)

  -- one pixel more of a part of row j
  pub part_step : (o i n j : ℕ) → o ≡ at + 4 * n → o + 4 ≤ length d → b ≡ patched d at (part px i n j) → b' ≡ patched b o (px (i + n) j)
      → b' ≡ patched d at (part px i (n + 1) j)
  part_step o i n j e h p q =
      rw (part-more px i n j)
      (patch-step d (part px i n j) (px (i + n) j) b b' at o (rw (part_length px four i n j) e) (rw (four (i + n) j) h) p q)

  -- the next part of row j
  pub parts-step : (o i m n j : ℕ) → o ≡ at + 4 * m → o + 4 * n ≤ length d → b ≡ patched d at (part px i m j) → b' ≡ patched b o (part px (i + m) n j)
      → b' ≡ patched d at (part px i (m + n) j)
  parts-step o i m n j e h p q =
      rw (part-add px i m n j)
      (patch-step d (part px i m j) (part px (i + m) n j) b b' at o (rw (part_length px four i m j) e) (rw (part_length px four (i + m) n j) h) p q)

  -- one row more
  pub row_step : (o w a j : ℕ) → a ≤ j → o ≡ at + length (strip px w a j) → o + 4 * w ≤ length d → b ≡ patched d at (strip px w a j)
      → b' ≡ patched b o (row px w j) → b' ≡ patched d at (strip px w a (j + 1))
  row_step o w a j l e h p q =
      rw (strip-more px w a j l)
      (patch-step d (strip px w a j) (row px w j) b b' at o e (rw (row-length px four w j) h) p q)

  -- row k of a strip that was written
  pub row-of-strip : (from w a k j : ℕ) → a ≤ k → k < j → from ≡ at + length (strip px w a k) → at ≤ length d → b ≡ patched d at (strip px w a j)
      → take (4 * w) (drop from b) ≡ row px w k
  row-of-strip from w a k j l m f h p =
      rw f
      (ap (λ (x : List A). take (4 * w) (drop (at + length (strip px w a k)) x)) (p ∙ ap (patched d at) (strip-split px w a k j l m))
      ∙ patch-part d (strip px w a k) (row px w k) (strip px w (k + 1) j) at (4 * w) (row-length px four w k) h)

  -- one row more, copied from row k, whose pixels are the same
  pub copied-step : (o from w a k j : ℕ) → a ≤ k → k < j → ((i : ℕ) → i < w → px i j ≡ px i k) → from ≡ at + length (strip px w a k)
      → o ≡ at + length (strip px w a j) → o + 4 * w ≤ length d → b ≡ patched d at (strip px w a j)
      → b' ≡ patched b o (take (4 * w) (drop from b)) → b' ≡ patched d at (strip px w a (j + 1))
  copied-step o from w a k j l m alike f e h p q =
      row_step o w a j (omega arith) e h p (q ∙ ap (patched b o) (row-of-strip from w a k j l m f (omega arith) p ∙ sym (rows_alike px w j k alike)))
