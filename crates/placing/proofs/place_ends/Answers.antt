-- `placing::place_ends` meets its contract. Assumes nothing.
use native.Mathlib.Omega.{arith}
use lib.ListN.{length-set}
use borrow.Author.Rules.{rules}
use Rattle.placing.proofs.Steps.{ends_set}
use Rattle.placing.proofs.place_ends.Goals as goal

pub bounds-ps-0 : goal.bounds-ps-0
bounds-ps-0 c = search rules

pub or_at-requires : goal.or_at-requires
or_at-requires c = search rules

pub overflow_sub-n : goal.overflow_sub-n
overflow_sub-n c = search rules

pub offset_bounds-ps-n : goal.offset_bounds-ps-n
offset_bounds-ps-n c = simp length-set (omega arith)

pub bounds-ps-n : goal.bounds-ps-n
bounds-ps-n c = simp length-set (omega arith)

pub overflow_add-line : goal.overflow_add-line
overflow_add-line c = search rules

pub or_at-requires-2 : goal.or_at-requires-2
or_at-requires-2 c = search rules

pub offset_bounds-ps-n-2 : goal.offset_bounds-ps-n-2
offset_bounds-ps-n-2 c = simp length-set (omega arith)

pub shape_of-ps : goal.shape_of-ps
shape_of-ps c = search rules

pub returns : goal.returns
returns c =
    ends_set c.args.line c.args.ps.now _ _ _ (omega arith) (simp length-set (omega arith)) c.or_at.ensures c.or_at-2.ensures
