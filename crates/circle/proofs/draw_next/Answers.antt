-- `circle::draw_next` meets its contract. Assumes nothing.
use mathlib.Core.Path.{ap}
use native.Mathlib.Omega.{arith}
use lib.ListN.{length}
use Rattle.ramp.specs.Ramp.{Entries, color_in}
use Rattle.line.specs.Circle.{circle_rule}
use Rattle.line.specs.Represented.{center_in}
use Rattle.circle.proofs.draw_next.Goals as goal

pub table_of-t-requires : goal.table_of-t-requires
table_of-t-requires c = c.requires.0.ramp.stops

pub base_of-base-requires : goal.base_of-base-requires
base_of-base-requires c = c.requires.0.ramp.stops

pub overflow_cast-n : goal.overflow_cast-n
overflow_cast-n c = omega (arith, ap length c.table_of-t.ensures, c.requires.0.ramp.range)

pub next_row-found-requires : goal.next_row-found-requires
next_row-found-requires c =
    let p = c.requires.0 in (
      record { near = p.near; some = p.box.some-width; width = p.box.width; height = omega (arith, p.box.height, c.requires.1); halves = c.requires.2; room-before = c.requires.3; room-last = c.requires.4 },
      rw (c.table_of-t.ensures, c.base_of-base.ensures) p.ramp.range,
      c.requires.6,
    )

pub draw_known-requires : goal.draw_known-requires
draw_known-requires c =
    ((c.next_row-found.ensures c.if-found.true).1, omega (arith, c.requires.3), c.requires.5)

pub returns-then-found : goal.returns-then-found
returns-then-found c =
    let a = c.args in
    let t : Entries (color_in a.ramp.now) c.base_of-base.result c.table_of-t.result.now = rw (c.table_of-t.ensures, c.base_of-base.ensures) c.requires.0.ramp.table in
    let k = (c.next_row-found.ensures c.if-found.true).0 in
    (c.draw_known.ensures (color_in a.ramp.now) (circle_rule (center_in a.c)) a.j t k.at, k)
