-- `avarezhu::avarezhu_place` meets its contract. Assumes nothing.
use Rattle.avarezhu.proofs.Slices.{handed-list}
use Rattle.avarezhu.proofs.avarezhu_place.Goals as goal

pub returns : goal.returns
returns c = let e = c.place_text-placed.ensures in rw c.number.ensures (handed-list _ _ e.reply e.stops c.hand_out.ensures)
