-- `straight::draw_band` meets its contract. The invariant: the columns up to i are drawn. Assumes nothing.
use mathlib.Core.Path.{◌≡◌, refl}
use native.Mathlib.Omega.{arith}
use Rattle.straight.proofs.draw_band.Goals as goal

pub loop-i-init : goal.loop-i-init
loop-i-init c = (omega arith, c.requires.6, refl, λ f d g l e. e)

pub draw_columns-requires : goal.draw_columns-requires
draw_columns-requires c =
    let p = c.requires in
    let n = c.min-n.ensures in
    (p.0, p.1, p.2, p.3, p.4, omega (arith, p.5), omega (arith, n, p.7))

pub overflow_add-i : goal.overflow_add-i
overflow_add-i c = omega (arith, c.min-n.ensures)

pub loop-i-smaller : goal.loop-i-smaller
loop-i-smaller c = omega (arith, c.min-n.ensures)

pub loop-i-preserved : goal.loop-i-preserved
loop-i-preserved c =
    let l = c.loop-i in
    let n = c.min-n.ensures in
    (omega arith, omega (arith, n), omega arith, λ f d g m e. c.draw_columns.ensures f d g (omega arith) (l.invariant.3 f d g m e))

pub shape_of-buf : goal.shape_of-buf
shape_of-buf c = c.loop-i.invariant.2

pub returns : goal.returns
returns c = λ f d g m e.
    let q : c.loop-i.i ≡ c.args.end = omega arith in
    rw q at (c.loop-i.invariant.3 f d g m e)
