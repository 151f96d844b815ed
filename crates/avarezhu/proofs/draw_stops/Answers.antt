-- `avarezhu::draw_stops` meets its contract. Assumes nothing.
use Rattle.avarezhu.proofs.Slices.{drawn-stops}
use Rattle.avarezhu.proofs.draw_stops.Goals as goal

pub returns-in-Ok : goal.returns-in-Ok
returns-in-Ok c = drawn-stops _ c.in-Ok.ensures.gradient _ c.in-Ok.ensures.stops _ _ _ _ _ c.in-Ok.ensures.reply c.draw_stops.ensures
