-- `fixed::step` meets its contract. Assumes nothing.
use Rattle.std.proofs.Common.{arith}
use Rattle.fixed.proofs.Places.{place-step}
use Rattle.fixed.proofs.step.Goals as goal

pub returns : goal.returns
returns c = λ i k b p q. place-step c.args.r i k _ b p q (omega arith)
