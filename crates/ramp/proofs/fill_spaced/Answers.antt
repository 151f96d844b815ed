-- `ramp::fill_spaced` meets its contract. Assumes nothing.
use mathlib.Core.Path.{◌≡◌, sym, ap, ap₂, ◌∙◌}
use mathlib.Core.List.{List}
use Prim.Native.Nat.{ℕ, ◌+◌, ◌*◌}
use native.Mathlib.Omega.{arith}
use Rattle.table.specs.Table.{entry_of}
use Rattle.repeats.specs.Repeats.{repeated_of}
use Rattle.ramp.proofs.Heads.{color-once, color-repeated}
use Rattle.ramp.proofs.fill_spaced.Goals as goal

-- an entry's biased location
same : (base k s : ℕ) → 33554432 + base + k * s ≡ 33554432 + (base + k * s)
same base k s = omega arith

pub returns-then-is_repeated : goal.returns-then-is_repeated
returns-then-is_repeated c =
    let a = c.args in
    let f = c.fill_spaced.ensures in (
      λ k h. f.0 k h ∙ ap₂ (λ (ps vs : List ℕ). repeated_of ps vs (33554432 + a.base + k * a.stride)) c.repeated_stops.ensures.0 c.repeated_stops.ensures.1
          ∙ ap (repeated_of _ _) (same a.base k a.stride) ∙ color-repeated a.ramp.now (sym c.is_repeated.ensures ∙ c.if-is_repeated.true) (a.base + k * a.stride),
      f.1,
    )

pub returns-else-is_repeated : goal.returns-else-is_repeated
returns-else-is_repeated c =
    let a = c.args in
    let f = c.fill_spaced-else-is_repeated.ensures in (
      λ k h. f.0 k h ∙ ap₂ (λ (ps vs : List ℕ). entry_of ps vs (33554432 + a.base + k * a.stride)) c.lent_stops.ensures.0 c.lent_stops.ensures.1
          ∙ ap (entry_of _ _) (same a.base k a.stride) ∙ color-once a.ramp.now (sym c.is_repeated.ensures ∙ c.if-is_repeated.false) (a.base + k * a.stride),
      f.1,
    )
