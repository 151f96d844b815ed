-- `repeats::move_to` meets its contract. Assumes nothing.
use Prim.Native.Nat.{ℕ, ◌-◌, ◌%◌, ◌<◌}
use native.Mathlib.Nat.{mod-lt}
use native.Mathlib.Omega.{arith}
use borrow.Author.Tests.{le-leb, lt-leb}
use Rattle.repeats.proofs.move_to.Goals as goal
use Rattle.repeats.proofs.move_to.Goals.{Start}

-- what is left by the period
rest : (c : Start) (n : ℕ) → n % (c.args.last - c.args.first) < c.args.last - c.args.first
rest c n = mod-lt n (omega (arith, c.requires))

pub overflow_cast-result-then-first-at : goal.overflow_cast-result-then-first-at
overflow_cast-result-then-first-at c = omega (arith, rest c.before (c.args.at - c.args.first))

pub overflow_add-result : goal.overflow_add-result
overflow_add-result c = omega (arith, rest c.before (c.args.at - c.args.first))

pub returns-then-first-at : goal.returns-then-first-at
returns-then-first-at c = (simp (le-leb _ _ c.if-first-at.true), omega arith, omega (arith, rest c.before (c.args.at - c.args.first)))

pub overflow_cast-result-3 : goal.overflow_cast-result-3
overflow_cast-result-3 c = omega (arith, rest c.before (c.args.first - 1 - c.args.at))

pub overflow_sub-result-5 : goal.overflow_sub-result-5
overflow_sub-result-5 c = omega (arith, rest c.before (c.args.first - 1 - c.args.at))

pub returns : goal.returns
returns c = (simp (lt-leb _ _ c.if-first-at.false), omega (arith, rest c.before (c.args.first - 1 - c.args.at)), omega (arith, rest c.before (c.args.first - 1 - c.args.at)))
