-- `circle::own_columns` meets its contract. Assumes nothing.
use native.Mathlib.Omega.{arith}
use Rattle.circleroots.proofs.Columns.{square-mirrored}
use Rattle.circle.proofs.own_columns.Goals as goal

pub returns : goal.returns
returns c =
    record { some = omega arith; within = omega arith; half = omega arith; same = λ i k p e. square-mirrored c.args.c.x i k (omega arith) }
