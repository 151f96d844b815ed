-- `walk::Channels<Walk>::steady_steps` meets its contract. Assumes nothing.
use Rattle.std.proofs.Common.{rules}
use Rattle.color.specs.Stop.{red}
use Rattle.walk.proofs.Channels+Walk.steady_steps.Goals as goal

pub returns : goal.returns
returns c = let h = c.zip_with-n.ensures red in search rules
