-- `table::LentStops::stretch_between` meets its contract. Assumes nothing.
use Prim.Native.Nat.{◌≤◌, ◌<◌}
use lib.ListN.{get_or}
use native.Mathlib.Omega.{arith}
use Rattle.table.proofs.Stretches.{stretched-none, near_none, stretched-between, near-between, some-between}
use borrow.Author.Rules.{rules}
use Rattle.table.proofs.lent.LentStops.stretch_between.Goals as goal
use Rattle.table.proofs.lent.LentStops.stretch_between.Goals.{After-max-first, After-run_end-end}

-- the first location is from stop i and `low` on, and at or below `at`
near : (c : After-max-first) → (get_or c.args.self.positions.now c.args.i 0 ≤ c.max-first.result) × (c.args.low ≤ c.max-first.result) × (c.max-first.result ≤ c.args.at)
near c =
    let l = c.requires.1.below c.args.i (omega arith) in
    let m = c.requires.2 in
    (search rules, search rules, search rules)

after : (c : After-run_end-end) → c.max-first.result < c.run_end-end.result
after c =
    let a = c.args in
    let f = c.max-first in
    let n = near (goal.at.After-run_end-end c).After-max-first in
    some-between a.self.positions.now a.self.values.now c.args.self.lent a.i a.at f.result c.run_end-end.result c.requires.0 c.requires.1 c.requires.3 n.0 n.2 c.run_end-end.ensures

pub returns-then-g-ge-LONG_GAP : goal.returns-then-g-ge-LONG_GAP
returns-then-g-ge-LONG_GAP c = (stretched-none _ _ c.no_stretch.ensures, near_none _ _ _ _ c.no_stretch.ensures)

pub overflow_sub-result : goal.overflow_sub-result
overflow_sub-result c = omega (arith, after (goal.at.overflow_sub-result c).After-run_end-end)

pub returns : goal.returns
returns c =
    let a = c.args in
    let f = c.max-first.result in
    let e = c.run_end-end in
    let n = near (goal.at.returns c).After-max-first in (
      stretched-between a.self.positions.now a.self.values.now c.args.self.lent a.i a.at f e.result c.requires.0 c.requires.1 c.requires.3 n.0 n.2 e.ensures _ c.begin.ensures,
      near-between a.self.positions.now a.self.values.now c.args.self.lent a.i a.at f e.result c.requires.0 c.requires.1 c.requires.3 n.0 n.2 e.ensures a.low n.1 _,
    )
