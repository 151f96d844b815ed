-- `placing::placed_stop` meets its contract. Assumes nothing.
use mathlib.Core.Path.{ap, ◌∙◌}
use lib.IntN.{ℤ}
use mir.Syntax.{w32}
use mir.Val.{of_z, to_z}
use borrow.Author.Rules.{rules}
use Rattle.numbers.specs.Biased.{unbiased}
use Rattle.numbers.proofs.Signed.{small_same, unbiased-small}
use Rattle.placing.specs.Placed.{placed_at}
use Rattle.placing.proofs.placed_stop.Goals as goal

pub unbiased-requires : goal.unbiased-requires
unbiased-requires c = search rules

pub returns : goal.returns
returns c =
    ap (placed_at c.args.s)
    (ap (λ (z : ℤ). to_z w32 (of_z w32 z)) c.unbiased.ensures ∙ small_same (unbiased c.args.u) (unbiased-small c.args.u c.requires))
