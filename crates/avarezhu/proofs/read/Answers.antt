-- `avarezhu::read` meets its contract. Assumes nothing.
use mathlib.Core.Path.{◌≡◌, sym, ap, ◌∙◌}
use mathlib.Core.List.{List}
use Prim.Native.Nat.{ℕ}
use native.Mathlib.Omega.{arith}
use lib.ListN.{length, replicate}
use Rattle.std.specs.Prelude.{Ok, Err}
use Rattle.picture.specs.Picture.{padded}
use Rattle.replies.specs.Handed.{Handed}
use Rattle.replies.specs.Refused.{number}
use Rattle.replies.specs.declared.Refusal.{Refusal}
use Rattle.replies.proofs.Laws.{number-above, or_else-next, handed, not-handed}
use Rattle.gradient.specs.declared.Gradient.{Gradient}
use Rattle.from_text.proofs.Texts.{read_reply, read_gradient}
use Rattle.layout.specs.Words.{layout_of}
use Rattle.avarezhu.specs.Calls.{read_call}
use Rattle.avarezhu.proofs.Slices.{refused-first}
use Rattle.avarezhu.proofs.read.Goals as goal

zeros-left : {answer : ℕ} {layout before after : List ℕ} (x r : Refusal) → x ≡ r → number r ≡ answer → after ≡ replicate (length before) 0
    → Handed answer layout (number x) before after
zeros-left x r e a z = not-handed (number x) (ap number e ∙ a) (λ n. let p = number-above x in omega (arith, n)) z

pub returns-in-Err : goal.returns-in-Err
unfolding read_call
returns-in-Err c = zeros-left _ _ c.refuse.ensures.reply (refused-first _ _ c.in-Err.ensures) c.refuse.ensures.bytes_left

pub returns-in-Ok : goal.returns-in-Ok
unfolding read_call
returns-in-Ok c =
    handed (sym (or_else-next (sym c.in_default.ensures) (read_reply (Ok _) c.in-Ok.ensures)))
    (c.write.ensures ∙ ap (λ (g : Gradient). padded (length c.args.out.now) (layout_of g)) (read_gradient (Ok _) c.in-Ok.ensures))

pub returns-in-Err-read : goal.returns-in-Err-read
unfolding read_call
returns-in-Err-read c =
    zeros-left _ _ c.refuse-in-Err-read.ensures.reply
    (or_else-next (sym c.in_default.ensures) (read_reply (Err _) c.in-Err-read.ensures)) c.refuse-in-Err-read.ensures.bytes_left
