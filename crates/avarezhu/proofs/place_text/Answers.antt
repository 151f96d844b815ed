-- `avarezhu::place_text` meets its contract. Assumes nothing.
use mathlib.Core.Path.{sym}
use Rattle.replies.proofs.Laws.{room-zero}
use Rattle.avarezhu.proofs.Slices.{err-room, err-reply, err-stops, ok-room, refused-first, text-reply, text-stops}
use Rattle.avarezhu.proofs.place_text.Goals as goal

pub returns-in_err-room_for : goal.returns-in_err-room_for
returns-in_err-room_for c =
    let k = c.from_residual.ensures in
    record {
      room = err-room _ _ k _;
      reply = err-reply _ _ k (refused-first _ _ c.in_err-room_for.ensures);
      stops = err-stops _ _ k _;
    }

pub returns : goal.returns
returns c = record {
  room = ok-room _ _ (room-zero _ _ _ _ (sym c.in_ok-room_for.ensures)).enough;
  reply = text-reply _ _ _ _ c.in_ok-room_for.ensures c.place_text.ensures;
  stops = text-stops _ _ _ _ c.in_ok-room_for.ensures c.place_text.ensures;
}
