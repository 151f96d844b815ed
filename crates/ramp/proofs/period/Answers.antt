-- `ramp::period` meets its contract. Assumes nothing.
use Prim.Native.Nat.{◌<◌}
use native.Mathlib.Omega.{arith}
use lib.ListN.{length}
use Rattle.repeats.specs.Repeats.{first_in, last_in}
use Rattle.ramp.proofs.period.Goals as goal
use Rattle.ramp.proofs.period.Goals.{After-positions-p}

some : (c : After-positions-p) → 0 < length c.positions-p.result.now
some c = rw c.positions-p.ensures c.requires.0.lent.some

rises : (c : After-positions-p) → first_in c.positions-p.result.now < last_in c.positions-p.result.now
rises c = rw c.positions-p.ensures (c.requires.0.period c.requires.1).period

pub overflow_sub-result : goal.overflow_sub-result
overflow_sub-result c = omega (arith, some (goal.at.overflow_sub-result c).After-positions-p)

pub bounds-p-p : goal.bounds-p-p
bounds-p-p c = omega (arith, some (goal.at.bounds-p-p c).After-positions-p)

pub bounds-p-0 : goal.bounds-p-0
bounds-p-0 c = some (goal.at.bounds-p-0 c).After-positions-p

pub overflow_sub-result-2 : goal.overflow_sub-result-2
overflow_sub-result-2 c = omega (arith, rises (goal.at.overflow_sub-result-2 c).After-positions-p)
