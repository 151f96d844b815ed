-- `walk::values_of` meets its contract. Assumes nothing.
use Rattle.std.proofs.Common.{refl}
use Rattle.walk.proofs.Four.{every}
use Rattle.walk.proofs.values_of.Goals as goal

pub returns : goal.returns
returns c = every _ refl refl refl refl
