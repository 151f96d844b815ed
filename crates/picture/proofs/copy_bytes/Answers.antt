-- `picture::copy_bytes` meets its contract: one more byte. Assumes nothing.
use Rattle.std.proofs.Common.{arith}
use lib.ListN.{length-set}
use Rattle.picture.proofs.Patches.{copy_step}
use Rattle.picture.proofs.copy_bytes.Goals as goal

pub loop-i-preserved : goal.loop-i-preserved
loop-i-preserved c =
    let l = c.loop-i in
    let a = c.args in
    (copy_step a.buf.now l.buf a.from a.to l.i 0 (omega arith) (omega arith) l.invariant.0, simp length-set (omega arith))
