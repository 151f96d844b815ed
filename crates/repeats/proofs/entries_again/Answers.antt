-- `repeats::entries_again` meets its contract. Assumes nothing.
use Rattle.repeats.proofs.Periods.{divisor-some, whole-periods}
use Rattle.repeats.proofs.entries_again.Goals as goal

pub nonzero_div-result : goal.nonzero_div-result
nonzero_div-result c = (divisor-some c.args.period c.args.stride c.common.result c.common.ensures c.requires).1

pub returns : goal.returns
returns c =
    let a = c.args in
    ((divisor-some a.period a.stride c.common.result c.common.ensures c.requires).0, whole-periods a.period a.stride c.common.result c.common.ensures)
