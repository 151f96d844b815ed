-- `picture::copy_in` meets its contract: one more block. Assumes nothing.
use Rattle.std.proofs.Common.{◌≡◌, ◌+◌, ◌-◌, ◌*◌, arith, length, min}
use Rattle.picture.proofs.Patches.{pieces_more, more-blocks}
use Rattle.picture.proofs.copy_in.Goals as goal

pub loop-block-preserved : goal.loop-block-preserved
loop-block-preserved c =
    let a = c.args in
    let l = c.loop-block in
    let m = more-blocks 2048 l.block (length a.bytes.now) (omega arith) in
    let i = 2048 * l.block in
    let k : i + c.min.result - i ≡ min (length a.bytes.now - i) 2048 = omega (arith, c.min.ensures) in
    rw m.1 (pieces_more a.buf.now l.buf _ a.bytes.now a.at i _ (omega arith) (omega arith) (rw m.0 at l.invariant) (rw k at c.copy_piece.ensures))
