-- `circleroots::circle_root` meets its contract. Assumes nothing.
use Rattle.std.proofs.Common.{arith}
use Rattle.root.proofs.Near.{square_le, exact-is}
use Rattle.circleroots.proofs.circle_root.Goals as goal

pub returns-then-d-b : goal.returns-then-d-b
returns-then-d-b c = exact-is c.args.d c.from-b.result _ (omega (arith, square_le c.from-b.result (omega arith))) (omega arith) c.if-d-b.true
