-- `reader::read_linear` meets its contract. Assumes nothing.
use mathlib.Core.Path.{◌≡◌, ◌∙◌}
use borrow.Author.Rules.{rules}
use Rattle.text.specs.Text.{whole_of}
use Rattle.text.specs.View.{view_whole}
use Rattle.tokens.specs.Cut.{cut}
use Rattle.directions.specs.Direction.{direction_of}
use Rattle.reader.proofs.Items.{linear-got, linear-none}
use Rattle.reader.proofs.read_linear.Goals as goal

pub returns-in-Some : goal.returns-in-Some
returns-in-Some c =
    let e : view_whole c.whole.result ≡ whole_of (direction_of cut) c.first_item.result.0.now = search rules in
    c.with_stops.ensures ∙ linear-got c.args.repeating c.args.s.now c.first_item.ensures (rw c.in-Some.is at e)

pub returns-in-None : goal.returns-in-None
returns-in-None c =
    let e : view_whole c.whole.result ≡ whole_of (direction_of cut) c.first_item.result.0.now = search rules in
    c.with_stops-in-None.ensures ∙ linear-none c.args.repeating c.args.s.now c.first_item.ensures (rw c.in-None.is at e)
