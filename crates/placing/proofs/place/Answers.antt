-- `placing::place` meets its contract. Assumes nothing.
use mathlib.Core.Path.{sym}
use Rattle.placing.proofs.Replies.{place-accepted, err_placed}
use Rattle.placing.proofs.place.Goals as goal

pub returns-in_err-place_reply : goal.returns-in_err-place_reply
returns-in_err-place_reply c = err_placed _ _ _ _ _ c.from_residual.ensures c.in_err-place_reply.ensures

pub place_in_box-requires : goal.place_in_box-requires
place_in_box-requires c = place-accepted _ _ _ (sym c.in_ok-place_reply.ensures)
