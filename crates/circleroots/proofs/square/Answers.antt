-- `circleroots::square` meets its contract. Assumes nothing.
use Rattle.std.proofs.Common.{◌≡◌, ℕ, ◌+◌, ◌*◌, ◌<◌, ap, ◌∙◌, arith}
use Rattle.line.proofs.Circles.{from-biased}
use Rattle.circleroots.specs.Squares.{square_of}
use Rattle.circleroots.proofs.Columns.{square-below}
use Rattle.circleroots.proofs.square.Goals as goal
use Rattle.circleroots.proofs.square.Goals.{After-apart-d}

is : (c : After-apart-d) → c.apart-d.result * c.apart-d.result ≡ square_of c.args.c c.args.i
is c = let g = c.args in ap (λ (m : ℕ). m * m) ((rw c.from.ensures at c.apart-d.ensures) ∙ from-biased g.c (64 * g.i + 32))

small : (c : After-apart-d) → c.apart-d.result * c.apart-d.result < 4503599627370496
small c = rw (is c) (square-below c.args.c c.args.i c.requires.0 c.requires.1)

pub overflow_mul-result : goal.overflow_mul-result
overflow_mul-result c = omega (arith, small c)

pub returns : goal.returns
returns c = (is c, small c)
