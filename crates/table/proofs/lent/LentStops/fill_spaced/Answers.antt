-- `table::LentStops::fill_spaced` meets its contract. The invariant: the colors stand up to k, and the positions before `place` are at or below k's location.
-- Assumes nothing.
use mathlib.Core.Path.{◌≡◌, ap}
use Prim.Native.Nat.{ℕ, ◌+◌, ◌*◌, ◌≤◌, ◌<◌}
use native.Mathlib.Nat.{mul-le-mul_right}
use native.Mathlib.Omega.{arith}
use lib.ListN.{length}
use Rattle.table.specs.Table.{Run}
use Rattle.table.proofs.Stores.{stored-join}
use Rattle.table.proofs.Runs.{run_is, splits_last, splits-clear}
use Rattle.table.proofs.lent.LentStops.fill_spaced.Goals as goal
use Rattle.table.proofs.lent.LentStops.fill_spaced.Goals.{After-entries_in-end, After-run_end-r, In-loop-k}

-- the locations left
ahead : (c : In-loop-k) → c.loop-k.k * c.args.stride + c.args.stride ≤ length c.args.t.now * c.args.stride
ahead c =
    let a = c.args in
    let m : (c.loop-k.k + 1) * a.stride ≤ length a.t.now * a.stride = mul-le-mul_right a.stride (omega arith) in
    omega arith

past : (c : After-run_end-r) → c.args.first + c.loop-k.k * c.args.stride < c.run_end-r.result
past c = c.run_end-r.ensures.past _ (omega (arith, ahead (goal.at.After-run_end-r c).In-loop-k, c.requires.0)) c.place_above-place.ensures.above

run : (c : After-entries_in-end)
    → Run c.args.self.positions.now c.args.first c.args.stride c.loop-k.k c.entries_in-end.result (length c.loop-k.t)
run c =
    let a = c.args in
    let l = c.loop-k in
    let r = c.run_end-r.ensures in
    let e : length l.t ≡ length a.t.now = l.invariant.2 in
    let m : length l.t * a.stride ≡ length a.t.now * a.stride = ap (λ (z : ℕ). z * a.stride) e in
    run_is a.self.positions.now a.first a.stride l.k (length l.t) c.run_end-r.result _ c.requires.0 (omega (arith, c.requires.2)) (omega (arith, c.requires.1)) (past (goal.at.After-entries_in-end c).After-run_end-r)
    (omega (arith, r.within)) (splits-clear a.self.positions.now _ _ c.args.self.lent.rising c.place_above-place.ensures _ _ r) c.entries_in-end.ensures

pub overflow_sub-r : goal.overflow_sub-r
overflow_sub-r c = omega (arith, past (goal.at.overflow_sub-r c).After-run_end-r)

pub fill_run-requires : goal.fill_run-requires
fill_run-requires c =
    let a = c.args in
    (run (goal.at.fill_run-requires c).After-entries_in-end, splits_last a.self.positions.now _ _ c.args.self.lent.rising c.place_above-place.ensures)

pub loop-k-smaller : goal.loop-k-smaller
loop-k-smaller c = omega (arith, (run (goal.at.loop-k-smaller c).After-entries_in-end).some)

pub loop-k-preserved : goal.loop-k-preserved
loop-k-preserved c =
    let a = c.args in
    let l = c.loop-k in
    let r = run (goal.at.loop-k-preserved c).After-entries_in-end in
    let p = c.place_above-place.ensures in
    let m : l.k * a.stride ≤ c.entries_in-end.result * a.stride = mul-le-mul_right a.stride (omega (arith, r.some)) in (
      stored-join _ 0 l.k _ a.t.now l.t _ (omega arith) l.invariant.0 c.fill_run.ensures,
      omega (arith, r.within),
      omega arith,
      p.within,
      λ i h. omega (arith, p.below i h),
    )
