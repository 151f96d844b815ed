-- `text::keyword` meets its contract. The invariant: what is left of the word is at the front of the rest where the whole word is at that of the
-- text. Assumes nothing.
use mathlib.Core.Path.{◌≡◌}
use lib.ListN.{drop}
use Rattle.text.specs.Text.{keyword_of}
use Rattle.text.proofs.keyword.Given as goal

abbrev pub invariant-loop-letter : goal.invariant-loop-letter
invariant-loop-letter l = keyword_of (drop l.letter-index l.word) l.rest ≡ keyword_of l.word l.s
