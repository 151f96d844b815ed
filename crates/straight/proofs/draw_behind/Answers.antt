-- `straight::draw_behind` meets its contract. Assumes nothing.
use mathlib.Core.Path.{refl}
use Prim.Native.Nat.{◌+◌, ◌-◌, ◌*◌}
use native.Mathlib.Omega.{arith}
use mir.Syntax.{w64}
use mir.Val.{Fits}
use Rattle.straight.proofs.Shifts.{behind-drawn}
use Rattle.straight.proofs.draw_behind.Goals as goal
use Rattle.straight.proofs.draw_behind.Goals.{Start}

-- the copy's place fits
fits : (c : Start) → Fits w64 (c.args.at + 4 * c.args.s.columns)
fits c = omega (arith, c.requires.0.room, c.requires.0.narrow)

pub overflow_add-at : goal.overflow_add-at
overflow_add-at c = fits (goal.at.overflow_add-at c).Start

pub returns : goal.returns
returns c =
    let a = c.args in
    behind-drawn a.ramp.now a.v a.s a.z.w a.z.h a.j a.from a.at a.buf.now _ _ (a.z.w - a.s.columns) c.requires.0 refl
    c.requires.2 c.draw_part.ensures c.copy_row.ensures
