-- `picture::copy_row` meets its contract: one more block. Assumes nothing.
use Rattle.std.proofs.Common.{◌*◌, arith}
use Rattle.picture.proofs.Patches.{copies-step, more-blocks}
use Rattle.picture.proofs.copy_row.Goals as goal

pub loop-block-preserved : goal.loop-block-preserved
loop-block-preserved c =
    let a = c.args in
    let l = c.loop-block in
    let m = more-blocks 2048 l.block a.n (omega arith) in
    rw m.1 (copies-step a.buf.now l.buf _ a.from a.to (2048 * l.block) _ (omega arith) (omega arith) (rw m.0 at l.invariant) (rw c.min-k.ensures at c.copy_bytes.ensures))
