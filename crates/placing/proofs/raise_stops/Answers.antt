-- `placing::raise_stops` meets its contract. The loop's invariant: what is raised, and what raising makes of the rest.
-- Assumes nothing.
use mathlib.Core.Path.{refl}
use Prim.Native.Nat.{◌<◌, ◌≤◌}
use native.Mathlib.Omega.{arith}
use lib.ListN.{length, length-set}
use Rattle.placing.proofs.Steps.{raise-start, raised-placed, raised-unplaced, raised-all}
use Rattle.placing.proofs.raise_stops.Goals as goal
use Rattle.placing.proofs.raise_stops.Goals.{in-Some, in_default}

pub loop-p-init : goal.loop-p-init
loop-p-init c = (refl, raise-start c.args.ps.now)

pub loop-p-preserved : goal.loop-p-preserved
loop-p-preserved c =
    let l = c.loop-p in
    let h : l.p-index < length l.ps = omega arith in
    elim c.match-p.branch [
      | in-Some w ↦ rw (w.ps-is, w.greatest-is, w.max-greatest.ensures) (simp length-set l.invariant.0, raised-placed l.ps l.p-index l.greatest l.invariant.1 _ h w.in-Some.is)
      | in_default w ↦ rw (w.ps-is, w.greatest-is) (simp length-set l.invariant.0, raised-unplaced l.ps l.p-index l.greatest l.invariant.1 h w.in_default.is)
    ]

pub returns : goal.returns
returns c =
    let l = c.loop-p in
    let end : length l.ps ≤ l.p-index = omega (arith, l.invariant.0, c.loop-p-test.false) in
    raised-all l.ps l.p-index l.greatest l.invariant.1 end
