-- `rowparts::draw_part` meets its contract. Assumes nothing.
use Rattle.std.proofs.Common.{◌+◌, arith}
use Rattle.picture.proofs.Rows.{part_none}
use Rattle.picture.proofs.Patches.{patch-none}
use Rattle.table.proofs.Stretches.{stretched-none}
use Rattle.ramp.specs.Ramp.{Entries, color_in}
use Rattle.rowparts.proofs.draw_part.Goals as goal

pub returns-then-n-eq0 : goal.returns-then-n-eq0
returns-then-n-eq0 c =
    let a = c.args in
    rw (c.if-n-eq0.true, part_none) (patch-none a.buf.now a.at)

pub table_of-t-requires : goal.table_of-t-requires
table_of-t-requires c = c.requires.0.stops

pub base_of-base-requires : goal.base_of-base-requires
base_of-base-requires c = c.requires.0.stops

pub floors_certain-requires : goal.floors_certain-requires
floors_certain-requires c =
    (omega (arith, c.if-n-eq0.false), omega (arith, c.requires.1.box.width, c.requires.2), λ k h. c.requires.1.fits (c.args.i + k) (omega (arith, c.requires.2)))

pub draw_from_table-requires : goal.draw_from_table-requires
draw_from_table-requires c =
    (omega (arith, c.if-n-eq0.false), record { fits = λ k h. c.requires.1.fits (c.args.i + k) (omega (arith, c.requires.2)); certain = c.floors_certain.ensures c.if-floors_certain.true }, c.requires.3)

pub draw_by_locations-requires : goal.draw_by_locations-requires
draw_by_locations-requires c = let p = c.requires in (p.0, stretched-none _ _ c.no_stretch.ensures, p.1, p.2, p.3)

pub returns-then-floors_certain : goal.returns-then-floors_certain
returns-then-floors_certain c =
    let a = c.args in
    let t : Entries (color_in a.ramp.now) c.base_of-base.result c.table_of-t.result.now = rw (c.table_of-t.ensures, c.base_of-base.ensures) c.requires.0.table in
    c.draw_from_table.ensures (color_in a.ramp.now) a.v a.z.w a.z.h a.j t c.requires.1 c.requires.2
