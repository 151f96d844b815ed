-- `circleroots::next_row` meets its contract. Assumes nothing.
use Rattle.std.proofs.Common.{◌-◌, sym, ◌∙◌, arith}
use mathlib.Core.Bool.{false≢true}
use borrow.Author.Tests.{not-false}
use Rattle.circleroots.proofs.Rows.{row-in-table}
use Rattle.circleroots.proofs.next_row.Goals as goal

pub find-requires : goal.find-requires
find-requires c =
    let n = c.nearest-m in (
      c.requires.0,
      record { within = n.ensures.0; least = λ i p. n.ensures.1 i (omega arith) p; before = n.ensures.3; after = n.ensures.4 },
      c.requires.2,
    )

pub returns-then-not-find : goal.returns-then-not-find
returns-then-not-find c = λ z. absurd (false≢true z)

pub returns-then-not-is_in_table : goal.returns-then-not-is_in_table
returns-then-not-is_in_table c = λ z. absurd (false≢true z)

pub returns-then-is_in_table : goal.returns-then-is_in_table
returns-then-is_in_table c = λ z.
    let a = c.args in
    let g = c.requires.0 in
    let n = c.nearest-m in
    let known = c.find.ensures (not-false _ c.if-not-find.false-raw) in (
      known,
      row-in-table a.c a.w a.j a.low.now _ _ g _ known a.base a.n n.result (a.w - 1) n.ensures.0 (λ i p. n.ensures.1 i (omega arith) p) (omega (arith, g.some))
          (c.is_in_table.ensures (not-false _ c.if-not-is_in_table.false-raw) c.requires.1).0 (c.is_in_table-2.ensures c.if-is_in_table.true c.requires.1).1 (c.is_in_table-then-is_in_table.ensures z c.requires.1).1,
    )

pub returns-else-is_in_table : goal.returns-else-is_in_table
returns-else-is_in_table c = λ z. absurd (false≢true (sym c.if-is_in_table.false ∙ z))
