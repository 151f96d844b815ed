-- `sine::sine` meets its contract: the code's table is the list of differences, and the sum a rebuilt sine after each round.
-- Assumes nothing.
use Rattle.std.proofs.Common.{◌≡◌, refl, ap, ◌∙◌, arith, ◌+◌, ◌<◌}
use Rattle.sine.specs.Sines.{sines}
use Rattle.sine.specs.Differences.{differences_of, sum_of, rebuilt_of}
use Rattle.sine.proofs.Differences.{rebuilt, next-part, count-part, rebuilt-small}
use Rattle.sine.proofs.sine.Goals as goal

pub loop-difference-init : goal.loop-difference-init
unfolding sines differences_of rebuilt_of sum_of
loop-difference-init c = (refl, refl)

below : (c : goal.After-from-sum) → c.loop-difference.difference-index < c.args.k
below c = let n = count-part c.args.k c.requires c.loop-difference.invariant.0 in rw n at c.loop-difference-test.true

next : (c : goal.After-from-sum) → c.loop-difference.sum + c.from-sum.result ≡ rebuilt_of (c.loop-difference.difference-index + 1)
next c = rw c.loop-difference.invariant.1 (next-part c.args.k _ _ c.loop-difference.invariant.0 (below c) c.from-sum.ensures)

pub overflow_add-sum : goal.overflow_add-sum
overflow_add-sum c = record { fits = omega (arith, next c, rebuilt-small (c.loop-difference.difference-index + 1) (omega (arith, below c))) }

pub loop-difference-preserved : goal.loop-difference-preserved
loop-difference-preserved c = (c.loop-difference.invariant.0, next c)

pub returns : goal.returns
returns c =
    let n = count-part c.args.k c.requires c.loop-difference.invariant.0 in
    let all : c.loop-difference.difference-index ≡ c.args.k = omega (arith, n) in
    c.loop-difference.invariant.1 ∙ ap rebuilt_of all ∙ rebuilt.same _ c.requires
