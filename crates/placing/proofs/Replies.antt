-- What the reply 0 says of the box and the gradient, and what is answered on it and on another.
-- Assumes nothing.
use mathlib.Core.Path.{◌≡◌}
use mathlib.Core.Bool.{true, false≢true}
use Prim.Native.Nat.{ℕ, zero, suc}
use native.Mathlib.Omega.{arith}
use Rattle.std.specs.Prelude.{Result, Ok, Err}
use Rattle.std.specs.Result.{IsErr, IsErrAnd}
use Rattle.replies.specs.Replies.{done}
use Rattle.replies.specs.Refused.{number}
use Rattle.replies.specs.declared.Refusal.{Refusal}
use Rattle.replies.specs.Room.{box_in}
use Rattle.replies.proofs.Laws.{or_else-zero, box-sides, box-zero, number-above}
use Rattle.gradient.specs.declared.Gradient.{Gradient}
use Rattle.gradient.specs.Check.{Accepted}
use Rattle.gradient.proofs.Laws.{accepted}
use Rattle.line.specs.Box.{Box}
use Rattle.stops.specs.declared.PlacedStops.{PlacedStops}
use Rattle.placing.specs.Placed.{placed_in, listed}
use Rattle.placing.specs.Reply.{placing, place_reply, handed_out, place_of}

pub box-is : (w h : ℕ) → box_in w h ≡ true → Box w h
box-is w h e = let s = box-sides w h e in record { some-width = s.0; width = s.1; some-height = s.2; height = s.3 }

pub place-accepted : (g : Gradient) (w h : ℕ) → place_reply g w h ≡ 0 → Box w h × Accepted g
unfolding place_reply
place-accepted g w h e =
    let k = or_else-zero _ _ e in
    (box-is w h (box-zero w h k.0), accepted g k.1)

-- a refusal, as a `?` hands it on, and the stops
refusal : (r : Refusal) (n : ℕ) (p : PlacedStops) → number r ≡ n → placing (Err r) ≡ record { reply = n; stops = handed_out n p }
refusal r zero p e = let k = number-above r in absurd (omega (arith, e))
refusal r (suc n) p e = rw e

pub err_placing : (a : Result PlacedStops Refusal) (r : Refusal) {n : ℕ} (p : PlacedStops) → IsErr a × IsErrAnd a (λ x. x ≡ r) → number r ≡ n
    → placing a ≡ record { reply = n; stops = handed_out n p }
err_placing (Ok q) r p k e = absurd (false≢true k.0)
err_placing (Err x) r {n} p k e = rw k.1 (refusal r n p e)

module _ (g : Gradient) (w h : ℕ) where
  pub err_placed : (a : Result PlacedStops Refusal) (r : Refusal) → IsErr a × IsErrAnd a (λ x. x ≡ r) → number r ≡ place_reply g w h → placing a ≡ place_of g w h
  unfolding place_of
  err_placed a r k e = err_placing a r (listed (placed_in g w h)) k e

  pub ok_placed : (p : PlacedStops) → done ≡ place_reply g w h → p ≡ listed (placed_in g w h) → placing (Ok p) ≡ place_of g w h
  unfolding place_of
  ok_placed p e k = rw (← e, k)
