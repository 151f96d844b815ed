-- `circleroots::Row::all_parts` meets its contract. Assumes nothing.
use Rattle.std.proofs.Common.{arith}
use Rattle.circleroots.proofs.Far.{beyond-before, beyond-after, near-short}
use Rattle.circleroots.proofs.Parts.{still, two-join}
use Rattle.circleroots.proofs.Row.all_parts.Goals as goal

pub far_part-requires : goal.far_part-requires
far_part-requires c =
    let a = c.args in (
      c.requires.0,
      omega arith,
      omega arith,
      λ i p q. omega (arith, c.requires.1.least i q),
    )

pub far_part-requires-2 : goal.far_part-requires-2
far_part-requires-2 c =
    let a = c.args in (
      c.requires.0,
      omega arith,
      omega (arith, c.requires.1.within),
      λ i p q. omega (arith, beyond-before a.self.c.x a.self.w a.m 66 c.requires.1 i (omega (arith, c.saturating_sub-p.ensures))),
    )

pub near_parts-requires : goal.near_parts-requires
near_parts-requires c =
    let a = c.args in
    let q = c.end_of-q in (
      still c.requires.0 _ (omega (arith, c.requires.0.room-before)),
      c.requires.1,
      omega (arith, c.saturating_sub-p.ensures),
      q.ensures.0,
      q.ensures.1,
      λ h. omega (arith, q.ensures.3 h),
      near-short a.self.c a.self.w a.self.j a.m c.requires.1 c.requires.0.width (omega arith),
    )

pub far_part-requires-3 : goal.far_part-requires-3
far_part-requires-3 c =
    let a = c.args in
    let q = c.end_of-q in (
      still c.requires.0 _ (omega (arith, c.requires.0.room-before)),
      q.ensures.1,
      omega arith,
      λ i p h. omega (arith, beyond-after a.self.c.x a.self.w a.m 66 c.requires.1 i h (omega (arith, q.ensures.3 (omega arith)))),
    )

pub returns : goal.returns
returns c =
    let a = c.args in
    let p = c.saturating_sub-p in
    let q = c.end_of-q in
    two-join a.self.c a.self.j 0 q.result a.self.w a.last.now a.before.now _ _ (omega arith) q.ensures.1
    (two-join a.self.c a.self.j 0 p.result q.result a.last.now a.before.now _ _ (omega arith) (omega (arith, p.ensures, q.ensures.0))
    c.far_part-2.ensures c.near_parts.ensures) c.far_part-3.ensures
