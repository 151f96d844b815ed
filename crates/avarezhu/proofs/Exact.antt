-- Document 01: "Every chart that reading gives and every list that placing gives has exactly one layout there, unused places blank, and that one is
-- taken; no other chart is answered with 0."
-- Assumes nothing.
use mathlib.Core.Path.{◌≡◌, ◌∙◌}
use mathlib.Core.List.{List}
use Prim.Native.Nat.{ℕ, ◌-◌, ◌≤◌}
use native.Mathlib.Omega.{arith}
use lib.ListN.{length, replicate, length-append, length-replicate}
use Rattle.replies.specs.Replies.{lowest}
use Rattle.replies.specs.Room.{strip_reply, room_reply}
use Rattle.replies.proofs.Laws.{or_else-zero, lowest-zero}
use Rattle.gradient.specs.Check.{check_of}
use Rattle.gradient.specs.declared.Gradient.{Gradient}
use Rattle.reader.specs.Reading.{read_of}
use Rattle.reader.proofs.Accepted.{read-accepted}
use Rattle.reader.proofs.Bytes.{read-bytes, read-full}
use Rattle.stops.specs.Blank.{blank_placed}
use Rattle.stops.specs.Check.{check_placed_of}
use Rattle.stops.specs.declared.PlacedStop.{PlacedStop}
use Rattle.stops.proofs.Laws.{accepted-placed}
use Rattle.placing.specs.Placed.{placed_in, listed}
use Rattle.placing.specs.Reply.{place_reply}
use Rattle.placing.proofs.Replies.{place-accepted}
use Rattle.placing.proofs.Laws.{placed-accepted}
use Rattle.layout.specs.Words.{layout_of}
use Rattle.layout.specs.Taken.{taken_reply, taken_of}
use Rattle.layout.proofs.Exact as gradient-exact
use Rattle.stopslayout.specs.Words.{placed_layout_of}
use Rattle.stopslayout.specs.Taken.{taken_stops_reply, taken_stops_of}
use Rattle.stopslayout.proofs.Exact as stops-exact
use Rattle.avarezhu.specs.Calls.{placed_layout, stops_room, place_gradient_call, draw_gradient_rows_call, draw_gradient_call, draw_stops_call}

-- ---- what is given is taken
-- the layout of a gradient that reading gives is taken, and gives that gradient
pub read_taken : (text : List ℕ) → (read_of text).reply ≡ 0 → taken_of (layout_of (read_of text).gradient) ≡ record { reply = 0; gradient = (read_of text).gradient }
read_taken text e = gradient-exact.taken_back (read_of text).gradient (read-full text e) (read-bytes text) (read-accepted text e)

listed-full : (l : List PlacedStop) → length l ≤ 16 → length (listed l).stops ≡ 16
listed-full l h = length-append l (replicate (16 - length l) blank_placed) ∙ omega (arith, length-replicate (16 - length l) blank_placed)

-- and so is the layout of the stops that placing gives
pub placed-taken : (g : Gradient) (w h : ℕ) → length g.stops ≡ 16 → place_reply g w h ≡ 0
    → taken_stops_of (placed_layout g w h) ≡ record { reply = 0; stops = listed (placed_in g w h) }
placed-taken g w h full e =
    let a = place-accepted g w h e in
    let k : check_placed_of (listed (placed_in g w h)) ≡ 0 = placed-accepted g w h a.0 a.1 full in
    stops-exact.taken_back (listed (placed_in g w h)) (listed-full (placed_in g w h) (accepted-placed _ k).fit) k

-- ---- nothing else is
pub record IsGradient (g : List ℕ) : Type 0 where
  pub layout : g ≡ layout_of (taken_of g).gradient
  pub accepted : check_of (taken_of g).gradient ≡ 0

pub record IsList (p : List ℕ) : Type 0 where
  pub layout : p ≡ placed_layout_of (taken_stops_of p).stops
  pub accepted : check_placed_of (taken_stops_of p).stops ≡ 0

is-gradient : (g : List ℕ) → taken_reply g ≡ 0 → IsGradient g
unfolding taken_of
is-gradient g e = let k = gradient-exact.taken-only g e in record { layout = k.0; accepted = k.1 }

is-list : (p : List ℕ) → taken_stops_reply p ≡ 0 → IsList p
unfolding taken_stops_of
is-list p e = let k = stops-exact.taken-only p e in record { layout = k.0; accepted = k.1 }

-- a slice that a call answers with 0 is the layout of what it is taken for
pub placed-only : (g : List ℕ) (w h n : ℕ) → place_gradient_call g w h n ≡ 0 → IsGradient g
placed-only g w h n e = is-gradient g (or_else-zero (stops_room w h n) (taken_reply g) e).1

pub rows-only : (g : List ℕ) (w h first end n : ℕ) → draw_gradient_rows_call g w h first end n ≡ 0 → IsGradient g
rows-only g w h first end n e = is-gradient g (or_else-zero (strip_reply w h first end n) (taken_reply g) e).1

pub drawn-only : (g : List ℕ) (w h n : ℕ) → draw_gradient_call g w h n ≡ 0 → IsGradient g
drawn-only g w h n e = rows-only g w h 0 h n e

pub drawn-both : (g p : List ℕ) (w h n : ℕ) → draw_stops_call g p w h n ≡ 0 → IsGradient g × IsList p
drawn-both g p w h n e =
    let k = lowest-zero _ _ (or_else-zero (room_reply w h n) (lowest (taken_reply g) (taken_stops_reply p)) e).1 in
    (is-gradient g k.0, is-list p k.1)
