-- The invariant: from `at` on the word stands i times.
use Rattle.std.proofs.Common.{◌≡◌, length}
use Rattle.picture.specs.Picture.{copies, patched}
use Rattle.words.specs.Word.{word_bytes}
use Rattle.axisrows.proofs.fill_words.Given as goal

abbrev pub invariant-loop-i : goal.invariant-loop-i
invariant-loop-i l = record { filled : l.buf ≡ patched l.initial.buf l.at (copies l.i (word_bytes l.c)); len : length l.buf ≡ length l.initial.buf }
