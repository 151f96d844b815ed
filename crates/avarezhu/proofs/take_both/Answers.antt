-- `avarezhu::take_both` meets its contract: both slices are judged, and then neither is refused. Assumes nothing.
use mathlib.Core.Path.{sym, ap₂, ◌∙◌}
use Rattle.replies.specs.Replies.{lowest}
use Rattle.replies.proofs.Laws.{or_else-next, lowest-zero}
use Rattle.avarezhu.proofs.Slices.{slice_reply, stops_slice_reply, alone, err-number, no-err}
use Rattle.avarezhu.proofs.take_both.Goals as goal

pub returns-in_err-lower-clause-reply : goal.returns-in_err-lower-clause-reply
returns-in_err-lower-clause-reply c =
    err-number _ _ c.from_residual-in_err-lower.ensures
    ∙ or_else-next (sym c.in_ok-room_reply.ensures)
    (c.in_err-lower.ensures
    ∙ ap₂ lowest (alone _ c.and.ensures ∙ slice_reply _ _ c.take-g.ensures) (alone _ c.and-2.ensures ∙ stops_slice_reply _ _ c.take-p.ensures))

pub returns-in_err-g-clause-reply : goal.returns-in_err-g-clause-reply
returns-in_err-g-clause-reply c =
    absurd (no-err _ _ c.in_err-g.was (sym (alone _ c.and.ensures) ∙ (lowest-zero _ _ (sym c.in_ok-lower.ensures)).0))

pub returns-in_err-p-clause-reply : goal.returns-in_err-p-clause-reply
returns-in_err-p-clause-reply c =
    absurd (no-err _ _ c.in_err-p.was (sym (alone _ c.and-2.ensures) ∙ (lowest-zero _ _ (sym c.in_ok-lower.ensures)).1))

pub returns-clause-reply : goal.returns-clause-reply
returns-clause-reply c =
    or_else-next (sym c.in_ok-room_reply.ensures)
    (c.in_ok-lower.ensures
    ∙ ap₂ lowest (alone _ c.and.ensures ∙ slice_reply _ _ c.take-g.ensures) (alone _ c.and-2.ensures ∙ stops_slice_reply _ _ c.take-p.ensures))
