-- `rowparts::color_near` meets its contract. Assumes nothing.
use Rattle.std.proofs.Common.{◌≡◌, ◌+◌, ◌-◌, ◌<◌, ◌≤◌, ap, ◌∙◌, arith}
use Rattle.table.proofs.Stretches.{stretched-leaps}
use Rattle.ramp.specs.Ramp.{color_in}
use Rattle.rowparts.proofs.color_near.Goals as goal
use Rattle.rowparts.proofs.color_near.Goals.{Then-is_in}

-- the location is in the stretch
inside : (c : Then-is_in) → let a = c.args in (a.t.first ≤ a.s) × (a.s < a.t.first + a.t.count)
inside c = c.is_in.ensures c.if-is_in.true

pub overflow_sub-s : goal.overflow_sub-s
overflow_sub-s c = (inside (goal.at.overflow_sub-s c).Then-is_in).0

pub color_in-requires : goal.color_in-requires
color_in-requires c = (stretched-leaps _ _ c.requires.1, omega (arith, inside (goal.at.color_in-requires c).Then-is_in))

pub returns-then-is_in : goal.returns-then-is_in
returns-then-is_in c =
    let e : c.args.t.first + (c.args.s - c.args.t.first) ≡ c.args.s = omega (arith, inside (goal.at.returns-then-is_in c).Then-is_in) in
    c.color_in.ensures _ c.requires.1 ∙ ap (color_in c.args.ramp.now) e
