-- `layout::shape_at` meets its contract. Assumes nothing.
use Rattle.layout.proofs.Parts.{circle-read, linear-read}
use Rattle.layout.proofs.shape_at.Goals as goal

pub returns-then-word_at-eq1 : goal.returns-then-word_at-eq1
returns-then-word_at-eq1 c =
    circle-read c.args.s.now c.word_at.ensures c.if-word_at-eq1.true
    c.word_at-then-word_at-eq1.ensures
    c.word_at-then-word_at-eq1-2.ensures
    c.word_at-then-word_at-eq1-3.ensures
    c.size_of-z.ensures
    c.word_at-then-word_at-eq1-4.ensures
    c.word_at-then-word_at-eq1-5.ensures
    c.coordinate_of-x.ensures
    c.word_at-then-word_at-eq1-6.ensures
    c.word_at-then-word_at-eq1-7.ensures
    c.coordinate_of-y.ensures

pub returns : goal.returns
returns c =
    linear-read c.args.s.now c.word_at.ensures c.if-word_at-eq1.false
    c.word_at-2.ensures
    c.word_at-3.ensures
    c.direction_of.ensures
