-- `placing::fix_up` meets its contract. Assumes nothing.
use mathlib.Core.Path.{sym, ap, ◌∙◌, subst}
use mathlib.Core.List.{map}
use native.Mathlib.Omega.{arith}
use Prim.Native.Nat.{ℕ}
use lib.IntN.{pos}
use lib.ListN.{take}
use Rattle.numbers.specs.Biased.{unbiased}
use borrow.Author.Rules.{rules}
use Rattle.placing.specs.Represented.{spot, Ready}
use Rattle.placing.specs.Fixup.{raised, spaced}
use Rattle.placing.proofs.Above.{ready}
use Rattle.placing.proofs.fix_up.Goals as goal

pub place_ends-requires : goal.place_ends-requires
place_ends-requires c = search rules

pub raise_stops-requires : goal.raise_stops-requires
raise_stops-requires c = search rules

pub space_stops-requires : goal.space_stops-requires
space_stops-requires c = (
  omega (arith, c.raise_stops.auto.ps, c.place_ends.auto.ps, c.requires.1),
  subst (Ready (pos 0)) (sym (c.raise_stops.ensures ∙ ap raised c.place_ends.ensures)) (ready c.args.line (map spot c.args.ps.now)),
)

pub shape_of-ps : goal.shape_of-ps
shape_of-ps c = search rules

pub returns : goal.returns
returns c =
    ap (λ (n : ℕ). map unbiased (take n c.space_stops.result)) (sym (c.raise_stops.auto.ps ∙ c.place_ends.auto.ps)) ∙ c.space_stops.ensures ∙ ap spaced (c.raise_stops.ensures ∙ ap raised c.place_ends.ensures)
