-- `line::choose` meets its contract. Assumes nothing.
use Rattle.line.proofs.choose.Goals as goal

pub returns-in-Closest : goal.returns-in-Closest
returns-in-Closest c = rw c.in-Closest.is c.min.ensures

pub returns-in-Farthest : goal.returns-in-Farthest
returns-in-Farthest c = rw c.in-Farthest.is c.max.ensures
