-- `replies::lower` meets its contract. Assumes nothing.
use Rattle.std.proofs.Common.{sym, ◌∙◌}
use Rattle.replies.proofs.Laws.{lowest-other}
use Rattle.replies.proofs.lower.Goals as goal

pub returns-else-lower_number-number : goal.returns-else-lower_number-number
returns-else-lower_number-number c =
    lowest-other _ _ (λ e. c.if-lower_number-number.false (rw (c.lower_number.ensures, c.number.ensures, c.number-2.ensures, c.number-3.ensures) e))
