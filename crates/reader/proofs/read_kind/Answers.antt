-- `reader::read_kind` meets its contract. Assumes nothing.
use Rattle.text.proofs.Laws.{any-of-four}
use Rattle.reader.specs.Text.{kind_of}
use Rattle.reader.proofs.read_kind.Goals as goal

pub returns : goal.returns
unfolding kind_of
returns c = any-of-four _ _ _ _ c.or.ensures c.or-2.ensures c.or-3.ensures c.word_for.ensures c.word_for-2.ensures c.word_for-3.ensures c.word_for-4.ensures
