-- `straight::draw_ahead` meets its contract. Assumes nothing.
use mathlib.Core.Path.{refl}
use Prim.Native.Nat.{◌-◌}
use Rattle.straight.proofs.Shifts.{ahead-drawn}
use Rattle.straight.proofs.draw_ahead.Goals as goal

pub returns : goal.returns
returns c =
    let a = c.args in
    ahead-drawn a.ramp.now a.v a.s a.z.w a.z.h a.j a.from a.at a.buf.now _ _ (a.z.w - a.s.columns) c.requires.0 refl
    c.requires.2 c.copy_row.ensures c.draw_part.ensures
