-- `circleroots::Row::near_parts` meets its contract. Assumes nothing.
use Rattle.std.proofs.Common.{◌+◌, arith}
use Rattle.circleroots.proofs.Far.{beyond-before, beyond-after}
use Rattle.circleroots.proofs.Parts.{still, two-join, two-of-one, end-within}
use Rattle.circleroots.proofs.Row.near_parts.Goals as goal

pub near_part-requires-2 : goal.near_part-requires-2
near_part-requires-2 c =
    let a = c.args in (
      c.requires.0,
      omega arith,
      omega (arith, c.requires.1.within),
      λ i p q. omega (arith, beyond-before a.self.c.x a.self.w a.m 7 c.requires.1 i (omega (arith, c.saturating_sub-p.ensures))),
      c.requires.6,
    )

pub next_part-requires : goal.next_part-requires
next_part-requires c = (
  still c.requires.0 _ (omega (arith, c.requires.0.room-before)),
  omega (arith, c.saturating_sub-p.ensures, c.end_of-q.ensures.0),
  c.end_of-q.ensures.1,
  c.requires.6,
)

pub near_part-requires-3 : goal.near_part-requires-3
near_part-requires-3 c =
    let a = c.args in
    let q = c.end_of-q in (
      still c.requires.0 _ (omega (arith, c.requires.0.room-before)),
      end-within q.result a.b a.self.w (a.m + 7 + 1) q.ensures.1 q.ensures.2 (λ h. omega (arith, c.requires.5 h)),
      c.requires.4,
      λ i p h. omega (arith, beyond-after a.self.c.x a.self.w a.m 7 c.requires.1 i (omega (arith, c.requires.4)) (omega (arith, q.ensures.3 (omega (arith, c.requires.4))))),
      c.requires.6,
    )

pub returns : goal.returns
returns c =
    let a = c.args in
    let p = c.saturating_sub-p in
    let q = c.end_of-q in
    let one = c.near_part-2 in
    let two = c.next_part in
    let three = c.near_part-3 in
    two-join a.self.c a.self.j a.a q.result a.b a.last.now a.before.now _ _ (omega arith)
    (end-within q.result a.b a.self.w (a.m + 7 + 1) q.ensures.1 q.ensures.2 (λ h. omega (arith, c.requires.5 h)))
    (two-join a.self.c a.self.j a.a p.result q.result a.last.now a.before.now _ _ (omega arith) (omega arith) one.ensures
    (two-of-one a.self.c a.self.j p.result q.result a.last.now _ _ two.ensures)) three.ensures
