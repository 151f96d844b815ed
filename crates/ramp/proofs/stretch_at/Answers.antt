-- `ramp::stretch_at` meets its contract. Assumes nothing.
use mathlib.Core.Path.{◌≡◌, ap}
use Prim.Native.Nat.{◌+◌, ◌-◌}
use native.Mathlib.Omega.{arith}
use Rattle.table.proofs.Stretches.{stretched-none}
use Rattle.ramp.specs.Ramp.{color_in}
use Rattle.ramp.proofs.stretch_at.Goals as goal

pub returns-then-s-ge-FAR : goal.returns-then-s-ge-FAR
returns-then-s-ge-FAR c = stretched-none _ _ c.no_stretch.ensures

pub returns : goal.returns
returns c =
    let t = c.biased_stretch-t in
    let m = c.moved in
    m.ensures.3 _ _ t.ensures.colors (omega (arith, m.ensures.1, t.ensures.colors.range)) (λ k l.
    let e : t.result.first + k - 33554432 ≡ m.result.first + k = omega (arith, m.ensures.2 (omega arith)) in
    ap (color_in c.args.ramp.now) e)
