-- `text::keyword` meets its contract. Assumes nothing.
use mathlib.Core.Path.{sym, ◌∙◌}
use native.Mathlib.Omega.{arith}
use Rattle.text.proofs.Laws.{keyword-on, keyword-not, keyword-end}
use Rattle.text.proofs.keyword.Goals as goal

pub returns-then-first-letter : goal.returns-then-first-letter
returns-then-first-letter c =
    let p = c.loop-letter in
    keyword-not _ p.letter-index _ c.loop-letter-test.true (λ e. c.if-first-letter.true (c.first_letter-first.ensures.letter ∙ e)) ∙ p.invariant

pub loop-letter-preserved : goal.loop-letter-preserved
loop-letter-preserved c =
    let p = c.loop-letter in
    let same = sym c.first_letter-first.ensures.letter ∙ c.if-first-letter.false in
    rw c.first_letter-first.ensures.rest (keyword-on _ p.letter-index _ c.loop-letter-test.true same ∙ p.invariant)

pub returns : goal.returns
returns c = let p = c.loop-letter in keyword-end c.args.word.now p.letter-index p.rest.now (omega arith) ∙ p.invariant
