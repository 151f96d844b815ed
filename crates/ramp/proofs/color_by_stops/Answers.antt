-- `ramp::color_by_stops` meets its contract. Assumes nothing.
use mathlib.Core.Path.{sym, ap₂, ◌∙◌}
use mathlib.Core.List.{List}
use Prim.Native.Nat.{ℕ, ◌+◌}
use Rattle.table.specs.Table.{entry_of}
use Rattle.repeats.specs.Repeats.{repeated_of}
use Rattle.ramp.proofs.Heads.{color-once, color-repeated}
use Rattle.ramp.proofs.color_by_stops.Goals as goal

pub returns-then-is_repeated : goal.returns-then-is_repeated
returns-then-is_repeated c =
    let a = c.args in
    c.color_of.ensures ∙ ap₂ (λ (ps vs : List ℕ). repeated_of ps vs (33554432 + a.s)) c.repeated_stops.ensures.0 c.repeated_stops.ensures.1
    ∙ color-repeated a.ramp.now (sym c.is_repeated.ensures ∙ c.if-is_repeated.true) a.s

pub returns : goal.returns
returns c =
    let a = c.args in
    c.color_of-2.ensures ∙ ap₂ (λ (ps vs : List ℕ). entry_of ps vs (33554432 + a.s)) c.lent_stops.ensures.0 c.lent_stops.ensures.1
    ∙ color-once a.ramp.now (sym c.is_repeated.ensures ∙ c.if-is_repeated.false) a.s
