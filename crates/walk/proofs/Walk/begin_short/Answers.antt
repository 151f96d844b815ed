-- `walk::Walk::begin_short` meets its contract. Assumes nothing.
use Rattle.std.proofs.Common.{◌≡◌, ℕ, ◌*◌, ◌≤◌, ap, arith}
use Rattle.walk.specs.Walk.{numerator_at}
use Rattle.walk.proofs.Walks.{top, short-fits, begin-short-is}
use Rattle.walk.proofs.Walk.begin_short.Goals as goal
use Rattle.walk.proofs.Walk.begin_short.Goals.{Start}

above : (s : Start) → numerator_at s.args.p s.args.q s.args.g s.args.x ≤ 130305 * s.args.g
above s = top s.args.p s.args.q s.args.g s.args.x s.requires.0.first s.requires.0.second s.requires.0.gap.within

pub overflow_mul-result : goal.overflow_mul-result
overflow_mul-result c =
    omega (arith, short-fits c.args.g c.args.r c.numerator.result c.requires.2 (omega (arith, above c.before, c.numerator.ensures)))

pub overflow_add-result-2 : goal.overflow_add-result-2
overflow_add-result-2 c =
    omega (arith, c.requires.1, short-fits c.args.g c.args.r c.numerator.result c.requires.2 (omega (arith, above c.before, c.numerator.ensures)))

pub returns : goal.returns
returns c =
    let a = c.args in
    let e : c.numerator.result * a.r ≡ numerator_at a.p a.q a.g a.x * a.r = ap (λ (z : ℕ). z * a.r) c.numerator.ensures in
    begin-short-is a.p a.q a.g a.s a.x c.requires.0 a.r _ _ _ c.requires.1 c.requires.2 (omega (arith, e)) (omega arith) (omega arith)
