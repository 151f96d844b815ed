-- `rowparts::draw_from_table` meets its contract. The invariant: e is place k, less the table's start, and the first k pixels stand from `at` on.
-- Assumes nothing.
use Rattle.std.proofs.Common.{◌≡◌, ℕ, ◌+◌, ◌*◌, ◌%◌}
use Rattle.line.specs.Represented.{rule_in}
use Rattle.line.specs.declared.SignedVector.{SignedVector}
use Rattle.line.specs.declared.Line.TheVariants as L
use Rattle.ramp.specs.Ramp.{Entries}
use Rattle.picture.specs.Picture.{part, patched}
use Rattle.rows.specs.Pixel.{pixel_by}
use Rattle.rowparts.specs.Certain.{Located}
use Rattle.rowparts.proofs.draw_from_table.Given as goal

abbrev pub invariant-loop-k : goal.invariant-loop-k
invariant-loop-k l = (l.e ≡ (l.initial.e + l.step * l.k) % 18446744073709551616)
    × ((color : ℕ → ℕ) (v : SignedVector) (w h j : ℕ) → Entries color l.base l.t → Located l.base l.i l.n l.initial.e l.step v w h j
    → l.buf ≡ patched l.initial.buf l.at (part (pixel_by (rule_in (L.Straight v) w h) color) l.i l.k j))
