-- `numbers::common` meets its contract. The invariant: a and b have the same greatest common divisor as x and y. Assumes nothing.
use Rattle.std.proofs.Common.{arith, mod-lt}
use Rattle.std.proofs.lemmas.Nat.Gcd.{IsGcd-from_zero, IsGcd-from_mod}
use Rattle.numbers.proofs.common.Goals as goal

pub loop-b-init : goal.loop-b-init
loop-b-init c = λ g h. h

pub loop-b-smaller : goal.loop-b-smaller
loop-b-smaller c = mod-lt c.loop-b.a (omega arith)

pub loop-b-preserved : goal.loop-b-preserved
loop-b-preserved c = λ g h. c.loop-b.invariant g (IsGcd-from_mod c.loop-b.a c.loop-b.b g h)

pub returns : goal.returns
returns c = c.loop-b.invariant c.loop-b.a (IsGcd-from_zero c.loop-b.a c.loop-b.b (omega arith))
