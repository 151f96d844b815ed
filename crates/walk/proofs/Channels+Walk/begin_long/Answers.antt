-- `walk::Channels<Walk>::begin_long` meets its contract. Assumes nothing.
use Rattle.std.proofs.Common.{rules}
use Rattle.walk.proofs.Channels+Walk.begin_long.Goals as goal

pub returns : goal.returns
returns c = λ d. let p = c.values_of.ensures d in let q = c.values_of-2.ensures d in let h = c.zip_with.ensures d in search rules
