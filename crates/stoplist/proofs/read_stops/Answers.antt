-- `stoplist::read_stops` meets its contract. The invariant is `Done`: the stops in the list and what the items left give are what all the items
-- give. Assumes nothing.
use mathlib.Core.Path.{ap, ◌∙◌}
use Rattle.tokens.specs.Cut.{cut}
use Rattle.stoplist.specs.View.{items_in}
use Rattle.stoplist.proofs.Laws.{done_none, done_more, done_refused, done-few, done-enough}
use Rattle.stoplist.proofs.read_stops.Goals as goal

pub loop-left-init : goal.loop-left-init
loop-left-init c = done_none cut _ c.blank_list-list.ensures

pub returns-in_default-whole_stop : goal.returns-in_default-whole_stop
returns-in_default-whole_stop c = done_refused cut _ c.loop-left.invariant (ap items_in c.in-Some.is ∙ c.first_item.ensures) c.in_default-whole_stop.ensures

pub loop-left-preserved : goal.loop-left-preserved
loop-left-preserved c = done_more cut _ c.loop-left.invariant (ap items_in c.in-Some.is ∙ c.first_item.ensures) c.in-Some-whole_stop.ensures c.add.ensures

pub returns-then-list-lt2 : goal.returns-then-list-lt2
returns-then-list-lt2 c = done-few cut _ c.loop-left.invariant (ap items_in c.in_default.is) c.if-list-lt2.true

pub returns : goal.returns
returns c = done-enough cut _ c.loop-left.invariant (ap items_in c.in_default.is) c.if-list-lt2.false
