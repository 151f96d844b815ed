-- `placing::part_way` meets its contract. Assumes nothing.
use Prim.Native.Nat.{◌≤◌, ◌-◌}
use native.Mathlib.Nat.{mul-le-mul}
use native.Mathlib.Omega.{arith}
use borrow.Author.Rules.{rules}
use Rattle.placing.proofs.Between.{part_at, part-within}
use Rattle.placing.proofs.part_way.Goals as goal

pub overflow_sub-b : goal.overflow_sub-b
overflow_sub-b c = search rules

pub overflow_cast-b : goal.overflow_cast-b
overflow_cast-b c = search rules

pub overflow_mul-b : goal.overflow_mul-b
overflow_mul-b c =
    let a = c.args in
    let x : a.b - a.a ≤ 4294967295 = search rules in
    let y : a.m ≤ 64 = search rules in
    omega (arith, mul-le-mul x y)

pub round-d-requires : goal.round-d-requires
round-d-requires c =
    let a = c.args in
    let x : a.b - a.a ≤ 4294967295 = search rules in
    let y : a.m ≤ 64 = search rules in
    omega (arith, mul-le-mul x y)

pub overflow_cast-result : goal.overflow_cast-result
overflow_cast-result c =
    let a = c.args in omega (arith, c.round-d.ensures, part-within (a.b - a.a) a.m a.k (omega arith) (omega arith))

pub overflow_add-result : goal.overflow_add-result
overflow_add-result c =
    let a = c.args in omega (arith, c.round-d.ensures, part-within (a.b - a.a) a.m a.k (omega arith) (omega arith))

pub returns : goal.returns
returns c =
    let a = c.args in rw c.round-d.ensures (part_at a.a a.b a.m a.k 33554432 (omega arith) (omega arith))
