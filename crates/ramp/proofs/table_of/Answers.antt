-- `ramp::table_of` meets its contract. Assumes nothing.
use Prim.Native.Nat.{◌-◌}
use native.Mathlib.Omega.{arith}
use lib.ListN.{length, drop, length-drop}
use lib.Seq.{take_all}
use Rattle.ramp.proofs.table_of.Goals as goal

pub returns : goal.returns
returns c =
    let r = c.args.ramp.now in
    take_all (length r - 84) (drop 84 r) (rw length-drop (omega arith))
