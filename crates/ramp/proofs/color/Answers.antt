-- `ramp::color` meets its contract. Assumes nothing.
use mathlib.Core.Path.{ap, ◌∙◌}
use mathlib.Core.List.{List}
use Prim.Native.Nat.{ℕ, ◌-◌, ◌<◌}
use native.Mathlib.Omega.{arith}
use lib.ListN.{length, get_or}
use Rattle.ramp.specs.Ramp.{table_in, color_in}
use Rattle.ramp.proofs.color.Goals as goal

pub returns-then-k-t : goal.returns-then-k-t
returns-then-k-t c =
    let r = c.args.ramp.now in
    let k : ℕ = c.args.s - c.base_of-base.result in
    let h : k < length (table_in r) = rw c.table_of-t.ensures at c.if-k-t.true in
    ap (λ (t : List ℕ). get_or t k 0) c.table_of-t.ensures ∙ c.requires.0.table k h ∙ ap (color_in r) (omega (arith, c.base_of-base.ensures, c.if-s-base.false))
