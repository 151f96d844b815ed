-- `line::line_of` meets its contract. Assumes nothing.
use mathlib.Core.Path.{sym, ap, ◌∙◌}
use Rattle.gradient.specs.Range.{shape_in}
use Rattle.gradient.proofs.Laws.{linear-range, circle-range}
use Rattle.line.proofs.line_of.Goals as goal

pub direction_vector-requires : goal.direction_vector-requires
direction_vector-requires c =
    (c.requires.0, linear-range _ (sym (ap shape_in c.in-Linear.is) ∙ c.requires.1))

pub circle_center-requires : goal.circle_center-requires
circle_center-requires c =
    let p = circle-range _ _ _ (sym (ap shape_in c.in-Circle.is) ∙ c.requires.1) in
    (c.requires.0, p.1, p.2)
