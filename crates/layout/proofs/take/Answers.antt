-- `layout::take` meets its contract. Assumes nothing.
use Rattle.layout.proofs.Replies.{other, refused, gave}
use Rattle.layout.proofs.take.Goals as goal

pub returns-then-not-is_layout : goal.returns-then-not-is_layout
returns-then-not-is_layout c = other _ c.gradient_at-g.ensures c.is_layout.ensures c.if-not-is_layout.true

pub returns-in_err-check : goal.returns-in_err-check
returns-in_err-check c = refused _ c.gradient_at-g.ensures c.is_layout.ensures c.if-not-is_layout.false _ _ c.from_residual.ensures c.in_err-check.ensures

pub returns : goal.returns
returns c = gave _ c.gradient_at-g.ensures c.is_layout.ensures c.if-not-is_layout.false c.in_ok-check.ensures
