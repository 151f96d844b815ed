-- `fixed::steps_of` meets its contract. Assumes nothing.
use Rattle.std.proofs.Common.{arith}
use Rattle.line.proofs.Lines.{norm-is, norm-some, norm-small}
use Rattle.fixed.proofs.steps_of.Goals as goal

pub overflow_mul-n : goal.overflow_mul-n
overflow_mul-n c = omega (arith, norm-small c.from-x.result c.from-y.result (omega arith))

pub overflow_mul-n-2 : goal.overflow_mul-n-2
overflow_mul-n-2 c = omega (arith, norm-small c.from-x.result c.from-y.result (omega arith))

pub overflow_add-n : goal.overflow_add-n
overflow_add-n c = omega (arith, norm-small c.from-x.result c.from-y.result (omega arith))

pub half_step-requires : goal.half_step-requires
half_step-requires c = rw (c.from-x.ensures, c.from-y.ensures) (norm-some _ _ c.requires.some, norm-small c.args.v.x c.args.v.y c.requires.sum, omega arith)

pub half_step-requires-2 : goal.half_step-requires-2
half_step-requires-2 c = rw (c.from-x.ensures, c.from-y.ensures) (norm-some _ _ c.requires.some, norm-small c.args.v.x c.args.v.y c.requires.sum, omega arith)

pub returns : goal.returns
returns c =
    let v = c.args.v in
    record {
      bounded = c.requires;
      across = rw norm-is (rw (c.from-x.ensures, c.from-y.ensures) at c.half_step.ensures);
      down = rw norm-is (rw (c.from-x.ensures, c.from-y.ensures) at c.half_step-2.ensures);
    }
