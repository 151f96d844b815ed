-- `circleroots::part` meets its contract. The invariant: each number so far is found, and the rest are as they were. Assumes nothing.
use Rattle.std.proofs.Common.{◌≡◌, length}
use Rattle.circleroots.specs.Squares.{Found}
use Rattle.circleroots.proofs.part.Given as goal

abbrev pub invariant-loop-i : goal.invariant-loop-i
invariant-loop-i g l = Found (goal.F-post g l.find) l.r l.a l.i l.low l.last l.initial.before l.before × (length l.before ≡ length l.initial.before) × goal.F-IsAlwaysCallable g l.find
