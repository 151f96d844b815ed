-- `replies::rows_in` meets its contract. Assumes nothing.
use borrow.Author.Tests.{lt-ltb, le-ltb}
use Rattle.replies.specs.Room.{rows_in}
use Rattle.replies.proofs.rows_in.Goals as goal

pub returns-then-first-end : goal.returns-then-first-end
unfolding rows_in
returns-then-first-end c = rw (lt-ltb _ _ c.if-first-end.true)

pub returns-else-first-end : goal.returns-else-first-end
unfolding rows_in
returns-else-first-end c = rw (le-ltb _ _ c.if-first-end.false)
