-- `circle::draw_turn` meets its contract. Assumes nothing.
use native.Mathlib.Omega.{arith}
use Rattle.circle.proofs.Above.{above-even, above_odd, more-even, more-odd}
use Rattle.circle.proofs.draw_turn.Goals as goal

pub draw_next-requires : goal.draw_next-requires
draw_next-requires c =
    let a = c.args in
    (c.requires.0, c.requires.1, c.requires.2, c.requires.3, c.requires.4, c.requires.5, above-even a.c a.z.w a.j a.known a.p.now a.q.now c.if-j-eq0.true c.requires.6)

pub draw_next-requires-else-j-eq0 : goal.draw_next-requires-else-j-eq0
draw_next-requires-else-j-eq0 c =
    let a = c.args in
    (c.requires.0, c.requires.1, c.requires.2, c.requires.4, c.requires.3, c.requires.5, above_odd a.c a.z.w a.j a.known a.p.now a.q.now (omega (arith, c.if-j-eq0.false)) c.requires.6)

pub returns-then-j-eq0 : goal.returns-then-j-eq0
returns-then-j-eq0 c =
    let a = c.args in
    let d = c.draw_next.ensures in
    (d.0, more-even a.c a.z.w a.j a.known a.p.now _ a.q.now c.if-j-eq0.true c.requires.6 d.1)

pub returns-else-j-eq0 : goal.returns-else-j-eq0
returns-else-j-eq0 c =
    let a = c.args in
    let d = c.draw_next-else-j-eq0.ensures in
    (d.0, more-odd a.c a.z.w a.j a.known a.p.now a.q.now _ (omega (arith, c.if-j-eq0.false)) c.requires.6 d.1)
