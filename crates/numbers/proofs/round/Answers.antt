-- `numbers::round` meets its contract. Assumes nothing.
use mathlib.Core.Path.{sym}
use native.Mathlib.Omega.{arith}
use Rattle.numbers.proofs.Rounding.{rounded-stays, rounded-rises}
use Rattle.numbers.proofs.round.Goals as goal

pub returns-then-rest-d : goal.returns-then-rest-d
returns-then-rest-d c = let a = c.args in sym (rounded-stays a.n a.d (omega arith) (omega arith))

pub returns-else-rest-d : goal.returns-else-rest-d
returns-else-rest-d c = let a = c.args in sym (rounded-rises a.n a.d (omega arith) (omega arith))
