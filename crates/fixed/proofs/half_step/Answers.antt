-- `fixed::half_step` meets its contract. Assumes nothing.
use Rattle.std.proofs.Common.{arith}
use Rattle.fixed.proofs.Places.{ratio-fits, step_is}
use Rattle.fixed.proofs.half_step.Goals as goal

pub overflow_mul-d-3 : goal.overflow_mul-d-3
overflow_mul-d-3 c = omega (arith, ratio-fits c.args.x c.args.n c.requires.0 c.requires.2)

pub overflow_mul-d-4 : goal.overflow_mul-d-4
overflow_mul-d-4 c = omega (arith, ratio-fits c.args.x c.args.n c.requires.0 c.requires.2)

pub overflow_add-d : goal.overflow_add-d
overflow_add-d c = omega (arith, ratio-fits c.args.x c.args.n c.requires.0 c.requires.2)

pub returns : goal.returns
returns c = step_is c.args.x c.args.n c.root.result c.requires.0 c.root.ensures
