-- `placing::space_stops` meets its contract. The loop's invariant: what is spaced, and what spacing makes of the rest.
-- Assumes nothing.
use mathlib.Core.Path.{◌≡◌}
use Prim.Native.Nat.{◌+◌, ◌<◌, ◌≤◌}
use native.Mathlib.Omega.{arith}
use lib.ListN.{length, drop, length-set, length-drop}
use Rattle.placing.specs.Represented.{Follows}
use Rattle.placing.proofs.Steps.{run-bound, run_on, follows-rest, unplaced-ready, placed-ready, not-above, put-placed, put-between, put-all}
use Rattle.placing.proofs.space_stops.Goals as goal
use Rattle.placing.proofs.space_stops.Goals.{in-Some, in-None, After-next_placed-t}

-- the search is over the stops from i on
found : (c : After-next_placed-t) → Follows (drop c.loop-i.i c.args.ps.now) c.next_placed-t.result.at c.next_placed-t.result.run
found c = follows-rest c.args.ps.now c.loop-i.i _ _ c.next_placed-t.ensures

-- its run has stop i in it, and ends in the list
inside : (c : After-next_placed-t) → c.loop-i.i + c.next_placed-t.result.run ≤ length c.args.ps.now
inside c =
    let ps = c.args.ps.now in
    let i = c.loop-i.i in
    omega (arith, (found c).stops, run-bound (drop i ps), length-drop i ps, c.loop-i-test.true)

some : (c : After-next_placed-t) → 0 < c.next_placed-t.result.run
some c = omega (arith, (found c).stops, run_on c.args.ps.now c.loop-i.i c.loop-i-test.true c.in-None.is)

pub overflow_add-m : goal.overflow_add-m
overflow_add-m c = let k = (goal.at.overflow_add-m c).After-next_placed-t in omega (arith, inside k, k.loop-i.invariant.2, k.requires.0)

pub part_way-requires : goal.part_way-requires
part_way-requires c =
    let k = (goal.at.part_way-requires c).After-next_placed-t in
    let l = c.loop-i in
    let r = unplaced-ready c.args.ps.now l.i c.loop-i-test.true c.in-None.is _ l.invariant.3 in
    (not-above l.a _ _ (found k).position r.0, omega (arith, some k), omega (arith, inside k, l.invariant.2, c.requires.0))

pub loop-i-preserved : goal.loop-i-preserved
loop-i-preserved c =
    let ps = c.args.ps.now in
    let l = c.loop-i in
    let h : l.i < length ps = c.loop-i-test.true in
    let h' : l.i < length l.out = omega (arith, l.invariant.0, c.requires.0, h) in
    elim c.match-p.branch [
      | in-Some w ↦ rw (w.out-is, w.a-is, w.m-is) (
        simp length-set l.invariant.0,
        omega arith,
        omega arith,
        placed-ready ps l.i h _ w.in-Some.is _ l.invariant.3,
        put-placed ps l.out l.i l.a l.m l.invariant.4 _ h h' w.in-Some.is,
      )
      | in-None w ↦ rw (w.out-is, w.a-is, w.m-is) (
        simp length-set l.invariant.0,
        omega arith,
        omega (arith, l.invariant.2),
        (unplaced-ready ps l.i h w.in-None.is _ l.invariant.3).1,
        put-between ps l.out l.i l.a l.m l.invariant.4 _ _ _ h h' w.in-None.is (follows-rest ps l.i _ _ w.next_placed-t.ensures) w.part_way.ensures,
      )
    ]

pub returns : goal.returns
returns c =
    let l = c.loop-i in
    let e : l.i ≡ length c.args.ps.now = omega (arith, c.loop-i-test.false, l.auto.i-end) in
    put-all c.args.ps.now l.out l.i l.a l.m l.invariant.4 e
