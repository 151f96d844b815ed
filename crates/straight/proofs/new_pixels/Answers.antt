-- `straight::new_pixels` meets its contract. Assumes nothing.
use mathlib.Core.Path.{refl}
use Prim.Native.Nat.{◌-◌, ◌*◌, ◌≤◌}
use native.Mathlib.Nat.{mul-le-mul}
use native.Mathlib.Omega.{arith}
use Rattle.straight.proofs.new_pixels.Goals as goal
use Rattle.straight.proofs.new_pixels.Goals.{Start}

-- the two products of counts of pixels
small : (c : Start) → (c.args.s.rows * c.args.w ≤ 4194304) × ((c.args.n - c.args.s.rows) * c.args.s.columns ≤ 4194304)
small c =
    let rows : c.args.s.rows ≤ 2048 = omega arith in
    let others : c.args.n - c.args.s.rows ≤ 2048 = omega arith in
    let columns : c.args.s.columns ≤ 2048 = omega arith in
    (mul-le-mul rows c.requires.0, mul-le-mul others columns)

pub overflow_mul-result : goal.overflow_mul-result
overflow_mul-result c = omega (arith, small (goal.at.overflow_mul-result c).Start)

pub overflow_mul-result-2 : goal.overflow_mul-result-2
overflow_mul-result-2 c = omega (arith, small (goal.at.overflow_mul-result-2 c).Start)

pub overflow_add-result : goal.overflow_add-result
overflow_add-result c = omega (arith, small (goal.at.overflow_add-result c).Start)

pub returns : goal.returns
returns c = (refl, omega (arith, small (goal.at.returns c).Start))
