-- `circleroots::Row::find` meets its contract. Assumes nothing.
use mathlib.Core.Bool.{false≢true}
use Rattle.std.proofs.Common.{arith}
use borrow.Author.Tests.{not-false}
use Rattle.circleroots.proofs.Parts.{known-by-one, known-by-two}
use Rattle.circleroots.proofs.Row.find.Goals as goal

pub returns-then-not-is_short : goal.returns-then-not-is_short
returns-then-not-is_short c = λ z. absurd (false≢true z)

pub next_part-requires : goal.next_part-requires
next_part-requires c = (c.requires.0, omega arith, omega arith, c.is_short.ensures (not-false _ c.if-not-is_short.false-raw))

pub returns-in-None : goal.returns-in-None
returns-in-None c = λ z. absurd (false≢true z)

pub returns-else-not-is_short : goal.returns-else-not-is_short
returns-else-not-is_short c = λ z.
    let a = c.args in
    known-by-one a.self.c a.self.w a.self.j a.last.now a.before.now _ c.next_part.ensures (rw c.in-One.is at c.requires.2)

pub returns-in-Two : goal.returns-in-Two
returns-in-Two c = λ z.
    let a = c.args in
    let k = rw c.in-Two.is at c.requires.2 in
    known-by-two a.self.c a.self.w a.self.j a.last.now a.before.now _ c.all_parts.ensures k.0 k.1
