-- What is not refused is a box, and a gradient that is accepted.
use Rattle.std.proofs.Common.{sym}
use Rattle.replies.proofs.Laws.{box-zero}
use Rattle.gradient.proofs.Laws.{accepted}
use Rattle.placing.proofs.Replies.{box-is}
use Rattle.bothways.proofs.Pictures.try_picture.Goals as goal

pub rows-rows-requires : goal.rows-rows-requires
rows-rows-requires c = let b = box-is _ _ (box-zero _ _ (sym c.in_ok-box_reply.ensures)) in (b.some-width, b.some-height)

pub try_strip-requires : goal.try_strip-requires
try_strip-requires c = (box-is _ _ (box-zero _ _ (sym c.in_ok-box_reply.ensures)), accepted _ (sym c.in_ok-check.ensures))
