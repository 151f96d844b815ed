-- `table::fill_walked` meets its contract. The invariant: the colors stand from `at` up to k, and the walks are there. Assumes nothing.
use Prim.Native.Nat.{◌+◌, ◌≤◌}
use native.Mathlib.Omega.{arith}
use Rattle.table.proofs.Stores.{stored-join}
use Rattle.table.proofs.Walked.{spans-less, reached-fits}
use Rattle.table.proofs.fill_walked.Goals as goal

pub fill_even-w-requires : goal.fill_even-w-requires
fill_even-w-requires c =
    let a = c.args in
    let l = c.loop-k in
    let m : l.k + 16 ≤ a.end = omega (arith, c.blocks_end-last.ensures) in
    (omega arith, omega arith, reached-fits a.values.now a.i a.g a.stride a.x a.at a.end l.k l.w l.invariant.2 c.requires.i_in_bounds.3 (l.invariant.1 (omega arith)) 15 (omega arith))

pub loop-k-preserved : goal.loop-k-preserved
loop-k-preserved c =
    let a = c.args in
    let l = c.loop-k in
    let m : l.k + 16 ≤ a.end = omega (arith, c.blocks_end-last.ensures) in
    let less = spans-less a.g a.stride a.x a.at a.end in
    let f = c.fill_even-w.ensures a.values.now a.i a.g a.stride a.x a.at l.invariant.2 (less (l.k + 16) m c.requires.i_in_bounds.3) (l.invariant.1 (omega arith)) in (
      stored-join _ a.at l.k (l.k + 16) a.t.now l.t _ l.invariant.2 l.invariant.0 f.0,
      λ z. f.1 (less (l.k + 16 + 1) (omega arith) c.requires.i_in_bounds.3),
      omega arith,
      omega arith,
      omega arith,
    )

pub returns : goal.returns
returns c =
    let a = c.args in
    let l = c.loop-k in
    let f = c.fill_steps.ensures a.values.now a.i a.g a.stride a.x a.at l.invariant.2 c.requires.i_in_bounds.3 l.invariant.1 in
    stored-join _ a.at l.k a.end a.t.now l.t _ l.invariant.2 l.invariant.0 f
