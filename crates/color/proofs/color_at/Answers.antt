-- `color::color_at` meets its contract. Assumes nothing.
use mathlib.Core.Path.{◌≡◌, sym, ◌∙◌}
use Prim.Native.Nat.{suc, ◌-◌}
use native.Mathlib.Omega.{arith}
use Rattle.color.proofs.Lent.{color-first, color-last, between, color-between}
use Rattle.color.proofs.color_at.Goals as goal

pub returns-then-place-eq0 : goal.returns-then-place-eq0
returns-then-place-eq0 c =
    c.at_stop.ensures
    ∙ color-first c.args.positions.now c.args.values.now c.requires c.args.at
    (sym c.if-place-eq0.true ∙ c.last_up_to-place.ensures)

pub returns-then-place-positions : goal.returns-then-place-positions
returns-then-place-positions c =
    let place = c.last_up_to-place.result in
    let e : suc (place - 1) ≡ place = omega (arith, c.if-place-eq0.false) in
    c.at_stop-then-place-positions.ensures
    ∙ color-last c.args.positions.now c.args.values.now c.requires c.args.at (place - 1)
    (e ∙ c.last_up_to-place.ensures) (e ∙ c.if-place-positions.true)

pub between-requires : goal.between-requires
between-requires c =
    let place = c.last_up_to-place.result in
    let e : suc (place - 1) ≡ place = omega (arith, c.if-place-eq0.false) in
    between c.args.positions.now c.args.values.now c.requires c.args.at (place - 1)
    (e ∙ c.last_up_to-place.ensures) (λ p. c.if-place-positions.false (sym e ∙ p))

pub returns : goal.returns
returns c =
    let place = c.last_up_to-place.result in
    let e : suc (place - 1) ≡ place = omega (arith, c.if-place-eq0.false) in
    c.between.ensures
    ∙ color-between c.args.positions.now c.args.values.now c.requires c.args.at (place - 1)
    (e ∙ c.last_up_to-place.ensures) (λ p. c.if-place-positions.false (sym e ∙ p))
