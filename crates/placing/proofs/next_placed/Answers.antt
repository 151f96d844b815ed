-- `placing::next_placed` meets its contract. The loop's invariant: the next placed stop from there on is the one from the start on.
-- Assumes nothing.
use mathlib.Core.Path.{◌∙◌}
use native.Mathlib.Omega.{arith}
use Rattle.placing.proofs.Steps.{next-on, run_on, next_here, run-here, next-none, run_none}
use Rattle.placing.proofs.next_placed.Goals as goal

pub returns-in-Some : goal.returns-in-Some
returns-in-Some c =
    let ps = c.args.ps.now in
    let l = c.loop-run in
    record {
      position = next_here ps l.run c.loop-run-test.true c.in-Some.at c.in-Some.is ∙ l.invariant.0;
      stops = omega (arith, l.invariant.1, run-here ps l.run c.loop-run-test.true c.in-Some.at c.in-Some.is);
    }

pub loop-run-preserved : goal.loop-run-preserved
loop-run-preserved c =
    let ps = c.args.ps.now in
    let l = c.loop-run in
    (next-on ps l.run c.loop-run-test.true c.in_default.is ∙ l.invariant.0, omega (arith, l.invariant.1, run_on ps l.run c.loop-run-test.true c.in_default.is))

pub returns : goal.returns
returns c =
    let ps = c.args.ps.now in
    let l = c.loop-run in
    record {
      position = next-none ps l.run c.loop-run-test.false ∙ l.invariant.0;
      stops = omega (arith, l.invariant.1, run_none ps l.run c.loop-run-test.false, c.loop-run-test.false, l.auto.run-end);
    }
