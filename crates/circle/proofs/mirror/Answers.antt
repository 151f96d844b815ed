-- `circle::mirror` meets its contract. Assumes nothing.
use Prim.Native.Nat.{◌-◌}
use native.Mathlib.Omega.{arith}
use Rattle.circle.proofs.Mirrors.{image-turn}
use Rattle.circle.proofs.mirror.Goals as goal

pub loop-i-preserved : goal.loop-i-preserved
loop-i-preserved c = λ px j d s e room.
    let a = c.args in
    let l = c.loop-i in
    image-turn px a.w a.n j a.at l.i (a.w - 1 - l.i) d l.buf _ s (omega arith) (omega arith) (omega arith) room (l.invariant px j d s e room) c.copy_row.ensures
