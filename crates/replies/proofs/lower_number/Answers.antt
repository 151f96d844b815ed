-- `replies::lower_number` meets its contract. Assumes nothing.
use native.Mathlib.Omega.{arith}
use Rattle.replies.proofs.Laws.{lowest-none, lowest-first, lowest-left, lowest-right}
use Rattle.replies.proofs.lower_number.Goals as goal

pub returns-then-a-eq0 : goal.returns-then-a-eq0
returns-then-a-eq0 c = lowest-none _ _ c.if-a-eq0.true

pub returns-then-b-eq0 : goal.returns-then-b-eq0
returns-then-b-eq0 c = lowest-first _ _ c.if-a-eq0.false c.if-b-eq0.true

pub returns-then-a-b : goal.returns-then-a-b
returns-then-a-b c = lowest-left _ _ c.if-a-eq0.false c.if-b-eq0.false c.if-a-b.true

pub returns-else-a-b : goal.returns-else-a-b
returns-else-a-b c = lowest-right _ _ c.if-a-eq0.false c.if-b-eq0.false (λ h. omega (arith, c.if-a-b.false))
