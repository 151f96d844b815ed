-- `ramp::values` meets its contract. Assumes nothing.
use mathlib.Core.Path.{◌≡◌}
use Prim.Native.Nat.{◌+◌, ◌-◌, ◌*◌}
use native.Mathlib.Omega.{arith}
use lib.ListN.{get_or}
use Rattle.ramp.proofs.values.Goals as goal

pub returns : goal.returns
returns c =
    let e : 20 + 4 * c.count.result - 20 ≡ 4 * get_or c.args.ramp.now 0 0 = omega (arith, c.count.ensures.0) in
    rw e
