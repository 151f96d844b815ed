-- `drawing::draw_gradient_rows` meets its contract. Assumes nothing.
use mathlib.Core.Path.{sym}
use Rattle.line.proofs.Bounds.{bounds}
use Rattle.drawing.proofs.Accepted.{drawable}
use Rattle.drawing.proofs.Accurate.{drawn}
use Rattle.drawing.proofs.draw_gradient_rows.Goals as goal

pub draw_strip-requires : goal.draw_strip-requires
draw_strip-requires c =
    let k = drawable _ _ _ _ _ _ (sym c.in_default.ensures) in
    (k.room.box, k.gradient, k.room.rows)

pub returns : goal.returns
returns c =
    let z = sym c.in_default.ensures in
    drawn _ _ _ _ _ _ _ _ _ (bounds.some-scale _ _ _ (drawable _ _ _ _ _ _ z).room.box) z c.draw_strip.ensures
