-- The invariant: the first i pixels stand from `at` on.
use Rattle.std.proofs.Common.{◌≡◌, length}
use Rattle.picture.specs.Picture.{row, patched}
use Rattle.axisrows.specs.Axis.{by_column}
use Rattle.axisrows.proofs.Entries.write_row.Given as goal

abbrev pub invariant-loop-i : goal.invariant-loop-i
invariant-loop-i l = record {
  pixels : l.bytes ≡ patched l.initial.bytes l.at (row (by_column l.self.table.now l.self.back l.self.n) l.i 0);
  len : length l.bytes ≡ length l.initial.bytes;
}
