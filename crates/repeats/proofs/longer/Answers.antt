-- `repeats::longer` meets its contract. Assumes nothing.
use Rattle.std.proofs.Common.{ℕ, ◌+◌, ◌*◌, ◌/◌, ◌≤◌, mul-le-mul, div-le_self, arith}
use Rattle.repeats.proofs.longer.Goals as goal

-- the multiple is small
small : (q : ℕ) → q ≤ 128 → (128 / q + 1) * q ≤ 129 * 128
small q h =
    let d : 128 / q + 1 ≤ 129 = omega (arith, div-le_self 128 q) in
    mul-le-mul d h

pub overflow_mul-result : goal.overflow_mul-result
overflow_mul-result c = omega (arith, small c.args.q (omega arith))
