-- `numbers::common` meets its contract. The invariant: a and b have the same greatest common divisor as x and y. Assumes nothing.
use Rattle.std.proofs.Common.{ℕ}
use Rattle.std.specs.Int.{IsGcd}
use Rattle.numbers.proofs.common.Given as goal

abbrev pub invariant-loop-b : goal.invariant-loop-b
invariant-loop-b l = (g : ℕ) → IsGcd l.a l.b g → IsGcd l.x l.y g

abbrev pub decreases-loop-b : goal.decreases-loop-b
decreases-loop-b l = l.b
