-- What `take` answers, by the way it went: s is read as p, which is written anew and compared.
-- Assumes nothing.
use mathlib.Core.Path.{◌≡◌, sym, ap, ◌∙◌}
use mathlib.Core.Bool.{Bool, true, false, false≢true, not}
use mathlib.Core.List.{List}
use Prim.Native.Nat.{ℕ}
use native.Mathlib.Omega.{arith}
use borrow.Author.Tests.{ne_eqb}
use Rattle.std.specs.Prelude.{Result, Ok, Err}
use Rattle.std.specs.Result.{IsErr, IsErrAnd}
use Rattle.replies.specs.Replies.{done, malformed}
use Rattle.replies.specs.Refused.{number}
use Rattle.replies.specs.declared.Refusal.{Refusal}
use Rattle.replies.specs.declared.Refusal.TheVariants.{Malformed}
use Rattle.replies.proofs.Laws.{given-first, given-next, number-above}
use Rattle.words.specs.Word.{equal}
use Rattle.stops.specs.Check.{check_placed_of}
use Rattle.stops.specs.declared.PlacedStops.{PlacedStops}
use Rattle.stopslayout.specs.Words.{placed_layout_of}
use Rattle.stopslayout.specs.Taken.{placed_at, taken_stops, taken_stops_reply, taken_stops_of}

module _ (s : List ℕ) {p : PlacedStops} (read : p ≡ placed_at s) where
  refusal : (r : Refusal) → number r ≡ taken_stops_reply s → taken_stops (Err r) ≡ taken_stops_of s
  unfolding taken_stops_of
  refusal r e = rw (← e, ne_eqb (number r) 0 (λ z. let k = number-above r in omega (arith, z)))

  module _ {b : Bool} (same : b ≡ equal s (placed_layout_of p)) where
    compared : equal s (placed_layout_of (placed_at s)) ≡ b
    compared = ap (λ (q : PlacedStops). equal s (placed_layout_of q)) (sym read) ∙ sym same

    -- another slice
    pub other : b ≡ false → taken_stops (Err Malformed) ≡ taken_stops_of s
    unfolding taken_stops_reply
    other e = refusal Malformed (given-first _ (ap not (compared ∙ e)))

    -- a layout, with the placed stops' own reply
    module _ (is : b ≡ true) where
      own : {n : ℕ} → n ≡ check_placed_of p → n ≡ taken_stops_reply s
      unfolding taken_stops_reply
      own e = given-next malformed (ap not (compared ∙ is)) (e ∙ ap check_placed_of read)

      pub refused : (a : Result PlacedStops Refusal) (r : Refusal) → IsErr a × IsErrAnd a (λ x. x ≡ r) → number r ≡ check_placed_of p → taken_stops a ≡ taken_stops_of s
      refused (Ok v) r k e = absurd (false≢true k.0)
      refused (Err x) r k e = rw k.1 (refusal r (own e))

      pub gave : done ≡ check_placed_of p → taken_stops (Ok p) ≡ taken_stops_of s
      unfolding taken_stops_of
      gave e = rw (← own e, read)
