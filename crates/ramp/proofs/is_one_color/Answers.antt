-- `ramp::is_one_color` meets its contract. Assumes nothing.
use borrow.Author.Tests.{eqb-true}
use mathlib.Core.Path.{sym, ◌∙◌}
use Rattle.ramp.proofs.Heads.{one-color}
use Rattle.ramp.proofs.is_one_color.Goals as goal

pub returns : goal.returns
returns c = λ e. one-color c.args.ramp.now c.requires (sym c.count.ensures.0 ∙ eqb-true c.count.result 1 e)
