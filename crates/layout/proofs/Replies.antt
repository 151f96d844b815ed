-- What `take` answers, by the way it went: s is read as g, which is written anew and compared.
-- Assumes nothing.
use mathlib.Core.Path.{◌≡◌, sym, ap, ◌∙◌}
use mathlib.Core.Bool.{Bool, true, false, false≢true, not}
use mathlib.Core.List.{List}
use Prim.Native.Nat.{ℕ}
use native.Mathlib.Omega.{arith}
use borrow.Author.Tests.{ne_eqb}
use Rattle.std.specs.Prelude.{Result, Ok, Err}
use Rattle.std.specs.Result.{IsErr, IsErrAnd}
use Rattle.replies.specs.Replies.{done, malformed}
use Rattle.replies.specs.Refused.{number}
use Rattle.replies.specs.declared.Refusal.{Refusal}
use Rattle.replies.specs.declared.Refusal.TheVariants.{Malformed}
use Rattle.replies.proofs.Laws.{given-first, given-next, number-above}
use Rattle.words.specs.Word.{equal}
use Rattle.gradient.specs.Check.{check_of}
use Rattle.gradient.specs.declared.Gradient.{Gradient}
use Rattle.layout.specs.Words.{layout_of}
use Rattle.layout.specs.Taken.{gradient_at, taken, taken_reply, taken_of}

module _ (s : List ℕ) {g : Gradient} (read : g ≡ gradient_at s) where
  refusal : (r : Refusal) → number r ≡ taken_reply s → taken (Err r) ≡ taken_of s
  unfolding taken_of
  refusal r e = rw (← e, ne_eqb (number r) 0 (λ z. let k = number-above r in omega (arith, z)))

  module _ {b : Bool} (same : b ≡ equal s (layout_of g)) where
    compared : equal s (layout_of (gradient_at s)) ≡ b
    compared = ap (λ (h : Gradient). equal s (layout_of h)) (sym read) ∙ sym same

    -- another slice
    pub other : b ≡ false → taken (Err Malformed) ≡ taken_of s
    unfolding taken_reply
    other e = refusal Malformed (given-first _ (ap not (compared ∙ e)))

    -- a layout, with the gradient's own reply
    module _ (is : b ≡ true) where
      own : {n : ℕ} → n ≡ check_of g → n ≡ taken_reply s
      unfolding taken_reply
      own e = given-next malformed (ap not (compared ∙ is)) (e ∙ ap check_of read)

      pub refused : (a : Result Gradient Refusal) (r : Refusal) → IsErr a × IsErrAnd a (λ x. x ≡ r) → number r ≡ check_of g → taken a ≡ taken_of s
      refused (Ok v) r k e = absurd (false≢true k.0)
      refused (Err x) r k e = rw k.1 (refusal r (own e))

      pub gave : done ≡ check_of g → taken (Ok g) ≡ taken_of s
      unfolding taken_of
      gave e = rw (← own e, read)
