-- `fixed::location` meets its contract. Assumes nothing.
use Rattle.std.proofs.Common.{arith}
use Rattle.line.specs.declared.Line.TheVariants as L
use Rattle.line.proofs.Bounds.{sound-location}
use Rattle.fixed.proofs.Places.{place-fits, place-whole}
use Rattle.fixed.proofs.location.Goals as goal

pub overflow_cast-result : goal.overflow_cast-result
overflow_cast-result c =
    let g = c.args in
    let f = c.requires.0 in
    omega (arith, c.place-e.ensures, place-fits g.v g.w g.h g.i g.j f.box c.requires.1 f.row _ f.bounded (f.place g.i c.requires.1))

pub returns-then-e-lt-DECIDING : goal.returns-then-e-lt-DECIDING
returns-then-e-lt-DECIDING c =
    let g = c.args in
    let f = c.requires.0 in
    rw c.place-e.ensures (place-whole g.v g.w g.h g.i g.j f.box c.requires.1 f.row _ f.bounded (f.place g.i c.requires.1) (rw c.place-e.ensures at c.if-e-lt-DECIDING.true))

pub overflow_cast-e : goal.overflow_cast-e
overflow_cast-e c =
    let g = c.args in
    let f = c.requires.0 in
    omega (arith, c.place-e.ensures, place-fits g.v g.w g.h g.i g.j f.box c.requires.1 f.row _ f.bounded (f.place g.i c.requires.1))

pub overflow_cast-result-2 : goal.overflow_cast-result-2
overflow_cast-result-2 c =
    let g = c.args in
    let f = c.requires.0 in
    omega (arith, c.location.ensures, sound-location (L.Straight g.v) g.w g.h g.i g.j f.bounded f.box c.requires.1 f.row)
