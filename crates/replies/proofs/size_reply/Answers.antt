-- `replies::size_reply` meets its contract. Assumes nothing.
use borrow.Author.Tests.{lt-ltb, le-ltb}
use Rattle.replies.proofs.size_reply.Goals as goal

pub returns-then-size-n : goal.returns-then-size-n
returns-then-size-n c = rw (le-ltb _ _ c.if-size-n.true)

pub returns : goal.returns
returns c = rw (lt-ltb _ _ c.if-size-n.false)
