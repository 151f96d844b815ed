-- `walk::Channels<Walk>::stay` meets its contract. Assumes nothing.
use Rattle.std.proofs.Common.{rules}
use Rattle.walk.proofs.Channels+Walk.stay.Goals as goal

pub returns : goal.returns
returns c = λ d. let p = c.values_of.ensures d in let h = c.map.ensures d in search rules
