-- `layout::stop_at` meets its contract. Assumes nothing.
use mathlib.Core.Path.{◌∙◌}
use Rattle.layout.specs.Taken.{stop_at}
use Rattle.layout.proofs.stop_at.Goals as goal

pub returns : goal.returns
unfolding stop_at
returns c = c.stop_of.ensures ∙ rw (c.word_at.ensures, c.word_at-2.ensures, c.word_at-3.ensures)
