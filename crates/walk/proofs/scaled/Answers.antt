-- `walk::scaled` meets its contract. Assumes nothing.
use Rattle.std.proofs.Common.{arith}
use Rattle.walk.proofs.Walks.{scaled-is}
use Rattle.walk.proofs.scaled.Goals as goal

pub returns : goal.returns
returns c = scaled-is c.args.n c.args.d (omega arith)
