-- `line::line_length` meets its contract. Assumes nothing.
use mathlib.Core.Path.{◌≡◌, sym, ap, ◌∙◌}
use native.Mathlib.Omega.{arith}
use Rattle.gradient.specs.Range.{shape_in}
use Prim.Native.Nat.{◌≤◌}
use Rattle.line.specs.Location.{line_length}
use Rattle.line.specs.Circle.{radius_of}
use Rattle.line.specs.Line.{length_of}
use Rattle.line.specs.Bounds.{longest}
use Rattle.gradient.proofs.Laws.{linear-range, circle-range}
use Rattle.line.proofs.Bounds.{bounds}
use Rattle.line.proofs.line_length.Goals as goal
use Rattle.line.proofs.line_length.Goals.{After-radius, After-vector_length, Start}

short : (c : Start) → length_of c.args.s c.args.w c.args.h ≤ longest
short c = bounds.length c.args.s c.args.w c.args.h c.requires.0 c.requires.1

linear-is : (c : After-vector_length) → c.vector_length.result ≡ length_of c.args.s c.args.w c.args.h
unfolding length_of
linear-is c =
    let g = c.args in
    rw c.in-Linear.is (c.vector_length.ensures ∙ ap (line_length g.w g.h) c.direction_vector.ensures.is)

circle-is : (c : After-radius) → c.radius.result ≡ length_of c.args.s c.args.w c.args.h
unfolding length_of
circle-is c =
    let g = c.args in
    let z = c.in-Circle.z in
    rw c.in-Circle.is (c.radius.ensures ∙ ap (radius_of z g.w g.h) c.circle_center.ensures.is)

pub direction_vector-requires : goal.direction_vector-requires
direction_vector-requires c =
    (c.requires.0, linear-range _ (sym (ap shape_in c.in-Linear.is) ∙ c.requires.1))

pub overflow_cast-result : goal.overflow_cast-result
overflow_cast-result c = omega (arith, linear-is c, short c.before.before.before)

pub circle_center-requires : goal.circle_center-requires
circle_center-requires c =
    let p = circle-range _ _ _ (sym (ap shape_in c.in-Circle.is) ∙ c.requires.1) in
    (c.requires.0, p.1, p.2)

pub radius-requires : goal.radius-requires
radius-requires c =
    let p = circle-range _ _ _ (sym (ap shape_in c.in-Circle.is) ∙ c.requires.1) in
    (c.requires.0, c.circle_center.ensures.near, p.0)

pub overflow_cast-result-in-Circle : goal.overflow_cast-result-in-Circle
overflow_cast-result-in-Circle c = omega (arith, circle-is c, short c.before.before.before)

pub returns-in-Linear : goal.returns-in-Linear
returns-in-Linear c = linear-is c

pub returns-in-Circle : goal.returns-in-Circle
returns-in-Circle c = circle-is c
