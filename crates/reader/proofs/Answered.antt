-- What the code answers, a gradient or a refusal, as a reply with a gradient.
-- Assumes nothing.
use mathlib.Core.Path.{◌≡◌}
use mathlib.Core.Bool.{false≢true}
use Prim.Native.Nat.{ℕ}
use native.Mathlib.Omega.{arith}
use borrow.Author.Tests.{ne_eqb}
use Rattle.std.specs.Prelude.{Result, Ok, Err}
use Rattle.std.specs.Result.{IsErr, IsErrAnd}
use Rattle.replies.specs.Refused.{number}
use Rattle.replies.specs.declared.Refusal.{Refusal}
use Rattle.replies.proofs.Laws.{number-above}
use Rattle.gradient.specs.declared.Gradient.{Gradient}
use Rattle.reader.specs.Reading.{reading, answered}

-- the refusal r, whatever gradient there would be
pub refused_answered : (r : Refusal) {n : ℕ} (g : Gradient) → number r ≡ n → reading (Err r) ≡ answered n g
refused_answered r g e = rw (← e, ne_eqb (number r) 0 (λ z. let p = number-above r in omega (arith, z)))

-- the same for what a `?` answers
pub err_answered : (a : Result Gradient Refusal) (r : Refusal) {n : ℕ} (g : Gradient) → IsErr a × IsErrAnd a (λ x. x ≡ r) → number r ≡ n → reading a ≡ answered n g
err_answered (Ok v) r g k e = absurd (false≢true k.0)
err_answered (Err x) r g k e = rw k.1 (refused_answered r g e)
