-- `straight::draw_new` meets its contract. Assumes nothing.
use native.Mathlib.Omega.{arith}
use Rattle.line.specs.declared.Line.TheVariants as L
use Rattle.rows.specs.Pixel.{ramp_pixel}
use Rattle.straight.proofs.Columns.{columns-drawn}
use Rattle.straight.proofs.draw_new.Goals as goal

pub returns-else-table_of-eq0 : goal.returns-else-table_of-eq0
returns-else-table_of-eq0 c =
    let a = c.args in
    columns-drawn (ramp_pixel a.ramp.now (L.Straight a.v) a.z.w a.z.h) a.buf.now 0 a.z.w a.z.a a.z.b (omega (arith, c.requires.3.room)) c.requires.1.some-width _ c.draw_tiles.ensures
