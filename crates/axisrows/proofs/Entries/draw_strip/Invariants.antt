-- The invariant: the rows from a up to j stand from the buffer's start on.
use Rattle.std.proofs.Common.{◌≡◌, length}
use Rattle.picture.specs.Picture.{strip, patched}
use Rattle.axisrows.specs.Axis.{by_row}
use Rattle.axisrows.proofs.Entries.draw_strip.Given as goal

abbrev pub invariant-loop-j : goal.invariant-loop-j
invariant-loop-j l = record {
  rows : l.buf ≡ patched l.initial.buf 0 (strip (by_row l.self.table.now l.self.back l.a l.b) l.w l.a l.j);
  len : length l.buf ≡ length l.initial.buf;
}
