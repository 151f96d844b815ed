-- `text::whole` meets its contract. Assumes nothing.
use Rattle.text.proofs.WholeTexts.{whole-refused, whole-more, whole-taken}
use Rattle.text.proofs.whole.Goals as goal

pub returns-in_err-value : goal.returns-in_err-value
returns-in_err-value g c grammar h = rw c.from_residual.ensures (whole-refused grammar _ _ c.skip_space.ensures (h.says _ _ c.in_err-value.ensures))

pub returns-then-is_empty : goal.returns-then-is_empty
returns-then-is_empty g c grammar h =
    whole-taken grammar _ _ c.skip_space.ensures (h.says _ _ c.in_ok-value.ensures) _ c.skip_space-2.ensures c.is_empty.ensures c.if-is_empty.true

pub returns : goal.returns
returns g c grammar h =
    whole-more grammar _ _ c.skip_space.ensures (h.says _ _ c.in_ok-value.ensures) _ c.skip_space-2.ensures c.is_empty.ensures c.if-is_empty.false
