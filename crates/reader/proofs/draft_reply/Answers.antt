-- `reader::draft_reply` meets its contract. Assumes nothing.
use borrow.Author.Tests.{lt-ltb, le-ltb}
use Rattle.reader.specs.View.{draft_reply}
use Rattle.reader.proofs.draft_reply.Goals as goal
use Rattle.reader.proofs.draft_reply.Goals.{then-not-shape_in-via-then-not-shape_in, then-not-shape_in-via-else-not-shape_in+then-list}

pub returns-then-not-shape_in : goal.returns-then-not-shape_in
unfolding draft_reply
returns-then-not-shape_in c =
    elim c.then-not-shape_in.branch [
      | then-not-shape_in-via-then-not-shape_in w ↦ rw (← c.shape_in.ensures, w.if-not-shape_in.true-raw)
      | then-not-shape_in-via-else-not-shape_in+then-list w ↦ rw (← c.shape_in.ensures, w.if-not-shape_in.false-raw, w.if-list.true)
    ]

pub returns-then-list-gt16 : goal.returns-then-list-gt16
unfolding draft_reply
returns-then-list-gt16 c = rw (← c.shape_in.ensures, c.if-not-shape_in.false-raw, c.if-list.false, lt-ltb _ _ c.if-list-gt16.true)

pub returns : goal.returns
unfolding draft_reply
returns c = rw (← c.shape_in.ensures, c.if-not-shape_in.false-raw, c.if-list.false, le-ltb _ _ c.if-list-gt16.false)
