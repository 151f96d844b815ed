-- `replies::strip_reply` meets its contract. Assumes nothing.
use Rattle.std.proofs.Common.{◌≡◌, ℕ, ◌-◌, ◌*◌, ◌≤◌, ap, sym, ◌∙◌, mul-le-mul, arith, Fits, w64}
use mathlib.Core.Bool.{not}
use Rattle.replies.specs.Room.{strip_reply}
use Rattle.replies.proofs.Laws.{given-first, given-next, box-sides, rows-within}
use Rattle.replies.proofs.strip_reply.Goals as goal

-- the bytes of rows m up to k
size_fits : (w k m : ℕ) → w ≤ 2048 → k ≤ 2048 → Fits w64 (4 * w * (k - m))
size_fits w k m h l =
    let n : k - m ≤ 2048 = omega arith in
    omega (arith, mul-le-mul h n)

pub returns-then-not-box_in : goal.returns-then-not-box_in
unfolding strip_reply
returns-then-not-box_in c = given-first _ (ap not (sym c.box_in.ensures ∙ c.if-not-box_in.true))

pub returns-then-not-rows_in : goal.returns-then-not-rows_in
unfolding strip_reply
returns-then-not-rows_in c =
    given-next _ (ap not (sym c.box_in.ensures ∙ c.if-not-box_in.false)) (given-first _ (ap not (sym c.rows_in.ensures ∙ c.if-not-rows_in.true)))

pub overflow_mul-w : goal.overflow_mul-w
overflow_mul-w c = omega (arith, (box-sides _ _ (sym c.box_in.ensures ∙ c.if-not-box_in.false)).1)

pub overflow_sub-end : goal.overflow_sub-end
overflow_sub-end c = omega (arith, (rows-within _ _ _ (sym c.rows_in.ensures ∙ c.if-not-rows_in.false)).0)

pub overflow_mul-w-2 : goal.overflow_mul-w-2
overflow_mul-w-2 c =
    let s = box-sides _ _ (sym c.box_in.ensures ∙ c.if-not-box_in.false) in
    let r = rows-within _ _ _ (sym c.rows_in.ensures ∙ c.if-not-rows_in.false) in
    size_fits _ _ _ s.1 (omega (arith, r, s))

pub returns : goal.returns
unfolding strip_reply
returns c =
    given-next _ (ap not (sym c.box_in.ensures ∙ c.if-not-box_in.false))
    (given-next _ (ap not (sym c.rows_in.ensures ∙ c.if-not-rows_in.false)) c.size_reply.ensures)
