-- `stoplist::read_stops` meets its contract. The invariant is `Done`: the stops in the list and what the items left give are what all the items
-- give. The measure is how many are left. Assumes nothing.
use lib.ListN.{length}
use Rattle.tokens.specs.Cut.{cut}
use Rattle.stoplist.specs.Stops.{items_of}
use Rattle.stoplist.specs.View.{items_in}
use Rattle.stoplist.proofs.Laws.{Done}
use Rattle.stoplist.proofs.read_stops.Given as goal

abbrev pub invariant-loop-left : goal.invariant-loop-left
invariant-loop-left l = Done cut (items_of l.s) (items_in l.left) l.list

abbrev pub decreases-loop-left : goal.decreases-loop-left
decreases-loop-left l = length (items_in l.left)
