-- `avarezhu::place_gradient` meets its contract. Assumes nothing.
use mathlib.Core.Path.{sym}
use Rattle.std.specs.Prelude.{Err}
use Rattle.replies.proofs.Laws.{or_else-next, room-zero}
use Rattle.avarezhu.proofs.Slices.{slice_reply, err-room, err-reply, err-stops, ok-room, refused-first, gradient-placed-reply, gradient-placed-stops}
use Rattle.avarezhu.proofs.place_gradient.Goals as goal

pub returns-in_err-room_for : goal.returns-in_err-room_for
returns-in_err-room_for c =
    let k = c.from_residual.ensures in
    record {
      room = err-room _ _ k _;
      reply = err-reply _ _ k (refused-first _ _ c.in_err-room_for.ensures);
      stops = err-stops _ _ k _;
    }

pub returns-in_err-g : goal.returns-in_err-g
returns-in_err-g c =
    let k = c.from_residual-in_err-g.ensures in
    record {
      room = err-room _ _ k _;
      reply = err-reply _ _ k (or_else-next (sym c.in_ok-room_for.ensures) (slice_reply (Err _) _ c.in_err-g.ensures));
      stops = err-stops _ _ k _;
    }

pub returns : goal.returns
returns c = record {
  room = ok-room _ _ (room-zero _ _ _ _ (sym c.in_ok-room_for.ensures)).enough;
  reply = gradient-placed-reply _ c.in_ok-g.ensures _ _ _ c.in_ok-room_for.ensures c.place.ensures;
  stops = gradient-placed-stops _ c.in_ok-g.ensures _ _ _ c.in_ok-room_for.ensures c.place.ensures;
}
