-- `avarezhu::draw_gradient_rows` meets its contract. Assumes nothing.
use Rattle.avarezhu.proofs.Slices.{drawn-taken}
use Rattle.avarezhu.proofs.draw_gradient_rows.Goals as goal

pub returns-in-Ok : goal.returns-in-Ok
returns-in-Ok c = drawn-taken _ c.in-Ok.ensures.gradient _ _ _ _ _ _ _ c.in-Ok.ensures.reply c.draw_gradient_rows.ensures
