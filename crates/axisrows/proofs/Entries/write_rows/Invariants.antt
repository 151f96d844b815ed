-- The invariant: the row stands j times.
use Rattle.std.proofs.Common.{◌≡◌, length}
use Rattle.picture.specs.Picture.{row, copies, patched}
use Rattle.axisrows.specs.Axis.{by_column}
use Rattle.axisrows.proofs.Entries.write_rows.Given as goal

abbrev pub invariant-loop-j : goal.invariant-loop-j
invariant-loop-j l = record {
  rows : l.bytes ≡ patched l.initial.bytes 0 (copies l.j (row (by_column l.self.table.now l.self.back l.self.n) l.self.n 0));
  len : length l.bytes ≡ length l.initial.bytes;
}
