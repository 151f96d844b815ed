-- `circleroots::location` meets its contract. Assumes nothing.
use Rattle.std.proofs.Common.{◌+◌, ◌≤◌, ◌∙◌, arith}
use Rattle.root.specs.Root.{root_of}
use Rattle.root.proofs.Laws.{root-le, root_is}
use Rattle.circleroots.proofs.Columns.{sum_fits, location-is}
use Rattle.circleroots.proofs.location.Goals as goal

pub square-requires : goal.square-requires
square-requires c = let s = c in (s.requires.0.near.x, s.requires.1)

pub overflow_add-square : goal.overflow_add-square
overflow_add-square c =
    let g = c.args in
    omega (arith, sum_fits g.c g.i g.j g.own c.square.result c.requires.0 c.requires.1 c.square.ensures.0)

pub overflow_cast-result : goal.overflow_cast-result
overflow_cast-result c =
    let g = c.args in
    let d = c.square.result + g.own in
    let r = root_is 1 d (omega arith) in
    let b : root_of 1 d ≤ 134217727 =
    root-le 1 d (root_of 1 d) 134217727 r.low (omega (arith, sum_fits g.c g.i g.j g.own c.square.result c.requires.0 c.requires.1 c.square.ensures.0)) in
    omega (arith, c.circle_root.ensures, b)

pub returns : goal.returns
returns c =
    let g = c.args in
    c.circle_root.ensures ∙ location-is g.c g.i g.j g.own c.square.result c.requires.0 c.requires.1 c.square.ensures.0
