-- `drawing::draw_stops` meets its contract. Assumes nothing.
use mathlib.Core.Path.{refl, sym}
use Rattle.line.proofs.Bounds.{bounds}
use Rattle.drawing.proofs.Accepted.{along, painted_same}
use Rattle.drawing.proofs.Accurate.{drawn}
use Rattle.drawing.proofs.draw_stops.Goals as goal

pub line_of-l-requires : goal.line_of-l-requires
line_of-l-requires c = let k = along _ _ _ _ _ (sym c.in_default.ensures) in (k.room.box, k.gradient.shape)

pub draw_placed-requires : goal.draw_placed-requires
draw_placed-requires c =
    let k = along _ _ _ _ _ (sym c.in_default.ensures) in
    (record { box = k.room.box; sound = c.line_of-l.ensures.sound }, k.stops.lendable, k.stops.two, k.room.rows)

pub returns : goal.returns
returns c =
    let z = sym c.in_default.ensures in
    drawn _ _ _ _ _ _ _ _ _ (bounds.some-scale _ _ _ (along _ _ _ _ _ z).room.box) z (painted_same c.line_of-l.ensures.is refl c.draw_placed.ensures)
