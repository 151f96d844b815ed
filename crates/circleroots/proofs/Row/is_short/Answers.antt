-- `circleroots::Row::is_short` meets its contract. Assumes nothing.
use Rattle.std.proofs.Common.{◌-◌, arith, ltb-true}
use Rattle.circleroots.specs.Squares.{square_of}
use Rattle.circleroots.proofs.Far.{farthest}
use Rattle.circleroots.proofs.Row.is_short.Goals as goal

pub returns-then-square-own-lt-SHORT_SQUARE : goal.returns-then-square-own-lt-SHORT_SQUARE
returns-then-square-own-lt-SHORT_SQUARE c = λ h i p.
    let a = c.args in
    farthest a.self.c.x a.self.w (a.self.w - 1) i (square_of a.self.c.y a.self.j) 8796093022208 (omega arith) p (omega arith) (omega (arith, ltb-true))

pub returns-else-square-own-lt-SHORT_SQUARE : goal.returns-else-square-own-lt-SHORT_SQUARE
returns-else-square-own-lt-SHORT_SQUARE c = λ h i p. absurd (omega (arith, ltb-true))
