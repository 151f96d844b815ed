-- `ramp::color_past` meets its contract. Assumes nothing.
use mathlib.Core.Path.{◌≡◌, sym, ap, ◌∙◌}
use mathlib.Core.List.{List}
use Prim.Native.Nat.{ℕ, ◌+◌, ◌-◌, ◌%◌, ◌<◌}
use native.Mathlib.Omega.{arith}
use lib.ListN.{length, get_or}
use Rattle.ramp.specs.Ramp.{table_in, base_in, period_in, color_in}
use Rattle.ramp.proofs.Heads.{color-again}
use Rattle.ramp.proofs.color_past.Goals as goal

pub returns-then-k-t : goal.returns-then-k-t
returns-then-k-t c =
    let a = c.args in
    let r = a.ramp.now in
    let p = c.period in
    let k : ℕ = (a.s - c.base_of.result) % p.result in
    let h : k < length (table_in r) = rw c.table_of-t.ensures at c.if-k-t.true in
    let same : k ≡ (a.s - base_in r) % period_in r = rw (c.base_of.ensures, p.ensures.0) in
    ap (λ (t : List ℕ). get_or t k 0) c.table_of-t.ensures ∙ c.requires.0.table k h ∙ ap (λ (n : ℕ). color_in r (base_in r + n)) same
    ∙ color-again r c.requires.0.stops (sym c.is_repeated.ensures ∙ c.if-is_repeated.true) (base_in r) a.s c.requires.2 (omega (arith, p.ensures))
