-- `strips::draw_ready` meets its contract. Assumes nothing.
use Rattle.strips.proofs.Handed.{straight, circular}
use Rattle.strips.proofs.draw_ready.Goals as goal

pub draw-requires : goal.draw-requires
draw-requires c = (c.requires.0, straight c.requires.1 c.requires.2 c.in-Straight.is)

pub draw_circle-requires : goal.draw_circle-requires
draw_circle-requires c = (c.requires.0, circular c.requires.1 c.requires.2 c.in-Circle.is)

pub returns-in-Straight : goal.returns-in-Straight
returns-in-Straight c = rw c.in-Straight.is c.draw.ensures

pub returns-in-Circle : goal.returns-in-Circle
returns-in-Circle c = rw c.in-Circle.is c.draw_circle.ensures
