-- `circles::read_extent` meets its contract. Assumes nothing.
use Rattle.text.proofs.Laws.{any-of-four}
use Rattle.circles.specs.Circle.{extent_of}
use Rattle.circles.proofs.read_extent.Goals as goal

pub returns : goal.returns
unfolding extent_of
returns c = any-of-four _ _ _ _ c.or.ensures c.or-2.ensures c.or-3.ensures c.word_for.ensures c.word_for-2.ensures c.word_for-3.ensures c.word_for-4.ensures
