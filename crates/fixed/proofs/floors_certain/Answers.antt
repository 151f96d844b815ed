-- `fixed::floors_certain` meets its contract. Assumes nothing.
use Rattle.std.proofs.Common.{◌∙◌, sym}
use mathlib.Core.Bool.{false≢true}
use Rattle.fixed.proofs.Places.{all-certain}
use Rattle.fixed.proofs.floors_certain.Goals as goal
use Rattle.fixed.proofs.floors_certain.Goals.{then-is_in_table, else-is_in_table}

pub returns-then-is_in_table-2 : goal.returns-then-is_in_table-2
returns-then-is_in_table-2 c = λ h.
    let a = c.args in
    elim c.if-is_in_table.branch [
      | then-is_in_table w ↦
          let first = c.is_in_table.ensures w.if-is_in_table.true in
          let last = w.is_in_table-then-is_in_table.ensures (sym w.value-is ∙ c.if-is_in_table-2.true) in
          all-certain a.r a.i a.n a.base a.size _ _ _ _ c.requires.0 c.requires.2 c.place-e.ensures (rw c.place-e.ensures at first) (rw w.place.ensures at last)
          c.step.ensures c.low_half.ensures c.low_half-then-is_in_table-2.ensures (c.all_decided.ensures h)
      | else-is_in_table w ↦ absurd (false≢true (sym w.if-is_in_table.false ∙ sym w.value-is ∙ c.if-is_in_table-2.true))
    ]
