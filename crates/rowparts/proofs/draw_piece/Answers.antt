-- `rowparts::draw_piece` meets its contract. Assumes nothing.
use Rattle.std.proofs.Common.{◌+◌, arith}
use Rattle.table.proofs.Stretches.{stretched-leaps}
use Rattle.ramp.specs.Ramp.{color_in}
use Rattle.rowparts.proofs.draw_piece.Goals as goal

pub overflow_cast-t : goal.overflow_cast-t
overflow_cast-t c = omega (arith, c.requires.1.range)

pub floors_certain-requires : goal.floors_certain-requires
floors_certain-requires c =
    (c.requires.3, omega (arith, c.requires.2.box.width, c.requires.4), λ k h. c.requires.2.fits (c.args.i + k) (omega (arith, c.requires.4)))

pub draw_from_stretch-requires : goal.draw_from_stretch-requires
draw_from_stretch-requires c =
    (c.requires.3, record { fits = λ k h. c.requires.2.fits (c.args.i + k) (omega (arith, c.requires.4)); certain = c.floors_certain.ensures c.if-floors_certain.true }, stretched-leaps _ _ c.requires.1, c.requires.5)

pub returns-then-floors_certain : goal.returns-then-floors_certain
returns-then-floors_certain c =
    let a = c.args in
    c.draw_from_stretch.ensures (color_in a.ramp.now) a.v a.z.w a.z.h a.j c.requires.1 c.requires.2 c.requires.4
