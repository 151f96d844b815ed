-- `text::skip_bytes` meets its contract. The invariant: past the white space of what is left lies what lies past that of the text. The measure is
-- the length of what is left. Assumes nothing.
use mathlib.Core.Path.{◌≡◌}
use lib.ListN.{length}
use Rattle.text.specs.Text.{past, is_space}
use Rattle.text.proofs.skip_bytes.Given as goal

abbrev pub invariant-loop-s : goal.invariant-loop-s
invariant-loop-s l = past is_space l.s ≡ past is_space l.initial.s

abbrev pub decreases-loop-s : goal.decreases-loop-s
decreases-loop-s l = length l.s
