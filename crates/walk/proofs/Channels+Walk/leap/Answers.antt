-- `walk::Channels<Walk>::leap` meets its contract. Assumes nothing.
use Rattle.std.proofs.Common.{rules}
use Rattle.walk.proofs.Channels+Walk.leap.Goals as goal

pub returns : goal.returns
returns c = λ d. let h = c.map.ensures d in search rules
