-- `reader::read_circular` meets its contract. Assumes nothing.
use mathlib.Core.Path.{◌≡◌, ◌∙◌}
use borrow.Author.Rules.{rules}
use Rattle.text.specs.Text.{whole_of}
use Rattle.text.specs.View.{view_whole}
use Rattle.tokens.specs.Cut.{cut}
use Rattle.circles.specs.Circle.{radial_of}
use Rattle.reader.proofs.Items.{circular-got, circular-none}
use Rattle.reader.proofs.read_circular.Goals as goal

pub returns-in_err-shape : goal.returns-in_err-shape
returns-in_err-shape c =
    let e : view_whole c.whole.result ≡ whole_of (radial_of cut) c.first_item.result.0.now = search rules in
    c.from_residual.ensures ∙ circular-none c.args.repeating c.args.s.now c.first_item.ensures (rw c.in_err-shape.was at e)

pub returns : goal.returns
returns c =
    let e : view_whole c.whole.result ≡ whole_of (radial_of cut) c.first_item.result.0.now = search rules in
    c.with_stops.ensures ∙ circular-got c.args.repeating c.args.s.now c.first_item.ensures (rw c.in_ok-shape.was at e)
