-- `circle::at_pixel` meets its contract. Assumes nothing.
use native.Mathlib.Omega.{arith}
use Rattle.line.specs.declared.Line.TheVariants as L
use Rattle.line.proofs.Bounds.{sound-location}
use Rattle.circle.proofs.at_pixel.Goals as goal

pub overflow_cast-result : goal.overflow_cast-result
overflow_cast-result c =
    let a = c.args in
    omega (arith, c.location.ensures, sound-location (L.Circle a.c) a.z.w a.z.h a.i a.j c.requires.1 c.requires.0 c.requires.2 c.requires.3)
