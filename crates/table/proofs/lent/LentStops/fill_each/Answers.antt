-- `table::LentStops::fill_each` meets its contract. The invariant: the colors stand from `at` up to k. Assumes nothing.
use mathlib.Core.Path.{refl}
use native.Mathlib.Omega.{arith}
use lib.ListN.{length-set}
use Rattle.table.proofs.Stores.{stored-none, stored_more}
use Rattle.table.proofs.lent.LentStops.fill_each.Goals as goal

pub loop-k-init : goal.loop-k-init
loop-k-init c = (stored-none _ c.args.at c.args.t.now, refl)

pub loop-k-preserved : goal.loop-k-preserved
loop-k-preserved c =
    let a = c.args in
    let l = c.loop-k in
    (stored_more _ a.at l.k _ a.t.now l.t (omega arith) (omega arith) c.color_of.ensures l.invariant.0, simp length-set (omega arith))
