-- `circle::draw_known` meets its contract. The invariant: the first i pixels of the row stand from `at` on. Assumes nothing.
use mathlib.Core.Path.{◌≡◌}
use Prim.Native.Nat.{ℕ, ◌<◌}
use lib.ListN.{get_or}
use Rattle.line.specs.Location.{Rule, location_by}
use Rattle.ramp.specs.Ramp.{Entries}
use Rattle.picture.specs.Picture.{row, patched}
use Rattle.rows.specs.Pixel.{pixel_by}
use Rattle.circle.proofs.draw_known.Given as goal

abbrev pub invariant-loop-i : goal.invariant-loop-i
invariant-loop-i l = (color : ℕ → ℕ) (rule : Rule) (j : ℕ) → Entries color l.base l.t → ((k : ℕ) → k < l.w → get_or l.known k 0 ≡ location_by rule k j)
    → l.buf ≡ patched l.initial.buf l.at (row (pixel_by rule color) l.i j)
