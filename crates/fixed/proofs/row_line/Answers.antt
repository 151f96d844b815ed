-- `fixed::row_line` meets its contract. Assumes nothing.
use Rattle.std.proofs.Common.{◌≡◌, ℕ, ◌+◌, ◌*◌, ◌<◌, refl, arith}
use Rattle.line.specs.Represented.{odd_of}
use Rattle.fixed.proofs.Places.{row_fits, step_fits, goes-forth, goes_back}
use Rattle.fixed.proofs.row_line.Goals as goal
use Rattle.fixed.proofs.row_line.Goals.{Start}

fits : (c : Start) (a b : ℕ) → a ≡ odd_of c.args.v.left c.args.w 0 → b ≡ odd_of c.args.v.up c.args.h c.args.j
    → c.args.s.across * a + c.args.s.down * b < 144115188075855872
fits c a b e f =
    let g = c.args in
    rw (e, f) (row_fits g.s g.v g.w g.h g.j c.requires.1 c.requires.0 c.requires.2 0 c.requires.0.some-width)

pub overflow_mul-first : goal.overflow_mul-first
overflow_mul-first c = omega (arith, fits c.before.before _ _ c.odd.ensures refl)

pub overflow_mul-first-2 : goal.overflow_mul-first-2
overflow_mul-first-2 c = omega (arith, fits c.before.before.before.before _ _ c.odd.ensures c.odd-2.ensures)

pub overflow_add-first : goal.overflow_add-first
overflow_add-first c = omega (arith, fits c.before.before.before.before _ _ c.odd.ensures c.odd-2.ensures)

pub overflow_mul-step : goal.overflow_mul-step
overflow_mul-step c =
    let g = c.args in
    omega (arith, step_fits g.s g.v g.w g.h g.j c.requires.1 c.requires.0 c.requires.2)

pub returns-then-v : goal.returns-then-v
returns-then-v c =
    let g = c.args in
    rw (c.odd.ensures, c.odd-2.ensures)
    (goes_back g.s g.v g.w g.h g.j c.requires.1 c.requires.0 c.requires.2 c.if-v.true)

pub returns-else-v : goal.returns-else-v
returns-else-v c =
    let g = c.args in
    rw (c.odd.ensures, c.odd-2.ensures)
    (goes-forth g.s g.v g.w g.h g.j c.requires.1 c.requires.0 c.requires.2 c.if-v.false)
