-- `strips::draw_colors` meets its contract. Assumes nothing.
use Rattle.strips.proofs.Handed.{drawable}
use Rattle.strips.proofs.draw_colors.Goals as goal

pub draw_vertical-requires : goal.draw_vertical-requires
draw_vertical-requires c = (drawable c.requires c.in-Straight.is, c.if-v-eq0.true)

pub draw_horizontal-requires : goal.draw_horizontal-requires
draw_horizontal-requires c = (drawable c.requires c.in-Straight.is, c.if-v-eq0-2.true)

pub draw_slanted-requires : goal.draw_slanted-requires
draw_slanted-requires c = drawable c.requires c.in-Straight.is

pub draw_planned-requires : goal.draw_planned-requires
draw_planned-requires c = (drawable c.requires c.in-Circle.is, c.circle_plan.ensures)

pub returns-then-v-eq0 : goal.returns-then-v-eq0
returns-then-v-eq0 c = rw c.in-Straight.is c.draw_vertical.ensures

pub returns-then-v-eq0-2 : goal.returns-then-v-eq0-2
returns-then-v-eq0-2 c = rw c.in-Straight.is c.draw_horizontal.ensures

pub returns-else-v-eq0-2 : goal.returns-else-v-eq0-2
returns-else-v-eq0-2 c = rw c.in-Straight.is c.draw_slanted.ensures

pub returns-in-Circle : goal.returns-in-Circle
returns-in-Circle c = rw c.in-Circle.is c.draw_planned.ensures
