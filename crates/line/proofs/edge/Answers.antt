-- `line::edge` meets its contract. Assumes nothing.
use mathlib.Core.Path.{ap₂, ◌∙◌}
use Rattle.line.specs.Represented.{chosen}
use Rattle.line.proofs.Circles.{chosen-below}
use Rattle.line.proofs.edge.Goals as goal

pub returns : goal.returns
returns c =
    let a = c.distance-near.ensures in
    let b = c.distance-other.ensures in
    let choice = c.args.choice in
    (c.choose.ensures ∙ ap₂ (chosen choice) a.0 b.0, rw c.choose.ensures (chosen-below choice 67108864 _ _ a.1 b.1))
