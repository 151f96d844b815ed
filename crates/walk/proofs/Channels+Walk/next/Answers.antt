-- `walk::Channels<Walk>::next` meets its contract. Assumes nothing.
use Rattle.std.proofs.Common.{of_calls}
use Rattle.walk.proofs.Channels+Walk.next.Goals as goal

pub returns : goal.returns
returns c = λ d. let h = c.map.ensures d in search of_calls
