-- `replies::box_in` meets its contract. Assumes nothing.
use borrow.Author.Tests.{le-leb, lt-leb}
use Rattle.replies.specs.Room.{box_in}
use Rattle.replies.proofs.box_in.Goals as goal

pub returns-then-h-ge1 : goal.returns-then-h-ge1
unfolding box_in
returns-then-h-ge1 c = rw (le-leb 1 _ c.if-w-ge1.true, le-leb _ 2048 c.if-w-le-SIDE_MAX.true, le-leb 1 _ c.if-h-ge1.true)

pub returns-else-h-ge1 : goal.returns-else-h-ge1
unfolding box_in
returns-else-h-ge1 c = rw (le-leb 1 _ c.if-w-ge1.true, le-leb _ 2048 c.if-w-le-SIDE_MAX.true, lt-leb 1 _ c.if-h-ge1.false)

pub returns-else-w-le-SIDE_MAX : goal.returns-else-w-le-SIDE_MAX
unfolding box_in
returns-else-w-le-SIDE_MAX c = rw (le-leb 1 _ c.if-w-ge1.true, lt-leb _ 2048 c.if-w-le-SIDE_MAX.false)

pub returns-else-w-ge1 : goal.returns-else-w-ge1
unfolding box_in
returns-else-w-ge1 c = rw (lt-leb 1 _ c.if-w-ge1.false)
