-- `avarezhu::avarezhu_place_gradient` meets its contract. Assumes nothing.
use Rattle.avarezhu.proofs.Slices.{handed-list}
use Rattle.avarezhu.proofs.avarezhu_place_gradient.Goals as goal

pub returns : goal.returns
returns c = let e = c.place_gradient-placed.ensures in rw c.number.ensures (handed-list _ _ e.reply e.stops c.hand_out.ensures)
