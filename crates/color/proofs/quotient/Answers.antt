-- `color::quotient` meets its contract. Assumes nothing.
use Prim.Native.Nat.{ℕ, ◌*◌, ◌/◌, ◌≤◌}
use native.Mathlib.Nat.{mul-le-mul_right}
use native.Mathlib.Omega.{arith}
use Rattle.color.specs.Lent.{Inverse}
use Rattle.color.proofs.quotient.Goals as goal
use Rattle.color.proofs.quotient.Goals.{Start}

-- n * r is at most 2^62
scaled : (n d r : ℕ) → n ≤ 256 * d → Inverse d r → n * r ≤ 4611686018427387904
scaled n d r h i = omega (arith, i, mul-le-mul_right r h)

small : (c : Start) → c.args.n * c.args.inverse ≤ 4611686018427387904
small c = scaled c.args.n c.args.d c.args.inverse c.requires.2 c.requires.3

bounded : (c : Start) → c.args.n * c.args.inverse / 18014398509481984 * c.args.d ≤ 256 * c.args.d
bounded c = mul-le-mul_right c.args.d (omega (arith, small c))

pub overflow_mul-k : goal.overflow_mul-k
overflow_mul-k c = omega (arith, small c)

pub overflow_mul-e : goal.overflow_mul-e
overflow_mul-e c = omega (arith, bounded c)
