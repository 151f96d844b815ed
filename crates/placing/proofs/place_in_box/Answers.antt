-- `placing::place_in_box` meets its contract. Assumes nothing.
use mathlib.Core.Path.{ap, ◌∙◌}
use mathlib.Core.List.{List}
use lib.IntN.{ℤ}
use borrow.Author.Rules.{rules}
use Rattle.gradient.specs.Check.{stops_of}
use Rattle.placing.specs.Placed.{at_positions, listed}
use Rattle.placing.proofs.Laws.{placed-at-positions, biased-within}
use Rattle.placing.proofs.place_in_box.Goals as goal

pub overflow_cast-n : goal.overflow_cast-n
overflow_cast-n c = search rules

pub positions_in_box-requires : goal.positions_in_box-requires
positions_in_box-requires c = search rules

pub attach-requires : goal.attach-requires
attach-requires c =
    (c.requires.1.fit, biased-within c.args.g c.args.w c.args.h c.requires.0 c.requires.1 c.positions_in_box.result c.positions_in_box.ensures)

pub returns : goal.returns
returns c =
    let a = c.args in
    c.attach.ensures
    ∙ ap (λ (zs : List ℤ). listed (at_positions (stops_of a.g) zs)) c.positions_in_box.ensures
    ∙ ap listed (placed-at-positions a.g a.w a.h)
