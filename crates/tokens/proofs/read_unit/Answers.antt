-- `tokens::read_unit` meets its contract: one word after the other is tried, then the bare 0. Assumes nothing.
use Rattle.std.proofs.Common.{rules, tests, ◌≡◌, ◌∙◌, List, ℕ, cond, eqb}
use Rattle.text.specs.Text.{Read, got, refused, ◌or_read◌, word_for}
use Rattle.text.specs.View.{view}
use Rattle.text.proofs.Laws.{or-four}
use Rattle.tokens.specs.Number.{unit_of}
use Rattle.tokens.specs.declared.Unit.{Unit}
use Rattle.tokens.specs.declared.Unit.TheVariants.{Length, Percentage, Angle}
use Rattle.tokens.proofs.read_unit.Goals as goal

pub returns : goal.returns
unfolding unit_of
returns c =
    let l : List ℕ = c.args.s.now in
    let px : Read Unit = word_for "px" Length l in
    let percent : Read Unit = word_for "%" Percentage l in
    let deg : Read Unit = word_for "deg" Angle l in
    let zero : Read Unit = cond (eqb c.args.magnitude 0) (got Length l) refused in
    let two : view c.or_else.result ≡ (px or_read percent) = search rules in
    let three : view c.or_else-2.result ≡ ((px or_read percent) or_read deg) = search rules in
    let four : view c.or_else-3.result ≡ (((px or_read percent) or_read deg) or_read zero) = search (rules, tests) in
    four ∙ or-four px percent deg zero
