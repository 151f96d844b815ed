-- `root::root_digits` meets its contract.
-- Assumes nothing.
use Rattle.std.proofs.Common.{arith}
use Rattle.root.proofs.Digits.{digits-leading, digits-root}
use Rattle.root.proofs.root_digits.Goals as goal

pub returns : goal.returns
returns c = omega (arith, digits-root c.args.x, digits-leading 64 c.args.x c.ranges.x.fits)
