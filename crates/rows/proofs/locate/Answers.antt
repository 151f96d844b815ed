-- `rows::locate` meets its contract. Assumes nothing.
use native.Mathlib.Omega.{arith}
use Rattle.line.proofs.Bounds.{sound-location}
use Rattle.rows.proofs.locate.Goals as goal

pub overflow_cast-result : goal.overflow_cast-result
overflow_cast-result c =
    let a = c.args in
    omega (arith, c.location.ensures, sound-location a.l a.w a.h a.i a.j c.requires.0.sound c.requires.0.box c.requires.1 c.requires.2)
