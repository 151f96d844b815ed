-- What a slice of bytes reads as, and the reply to it. A slice is read whatever stands in it, and is a layout only where it is the layout of the
-- placed stops that it reads as. Document 01: "A chart or stop list handed in .. that breaks its layout in docs/ also gets 4, before its contents
-- are judged."
-- Assumes nothing.
use Rattle.std.specs.Prelude.{cond, not, Result, Ok, Err, List, ℕ, ◌+◌, ◌*◌, eqb, get_or}
use Rattle.std.specs.Int.{w32}
use Rattle.std.proofs.Common.{to_z}
use Rattle.replies.specs.Replies.{done, malformed, given, ◌or_else◌}
use Rattle.replies.specs.Refused.{number}
use Rattle.replies.specs.declared.Refusal.{Refusal}
use Rattle.words.specs.Word.{word_at, up_to, equal}
use Rattle.gradient.specs.declared.Color.{Color}
use Rattle.stops.specs.Blank.{no_stops}
use Rattle.stops.specs.Check.{check_placed_of}
use Rattle.stops.specs.declared.PlacedStop.{PlacedStop}
use Rattle.stops.specs.declared.PlacedStops.{PlacedStops}
use Rattle.stopslayout.specs.Words.{placed_layout_of}

-- the color whose four bytes stand from `at` on; past the end of s they count as 0
abbrev pub color_from : List ℕ → ℕ → Color
color_from s at = record { red = get_or s at 0; green = get_or s (at + 1) 0; blue = get_or s (at + 2) 0; alpha = get_or s (at + 3) 0 }

-- the place i
abbrev pub placed_stop_at : List ℕ → ℕ → PlacedStop
placed_stop_at s i = record { color = color_from s (4 + 8 * i); position = to_z w32 (word_at s (8 + 8 * i)) }

unfoldable pub placed_at : List ℕ → PlacedStops
placed_at s = record { count = get_or s 0 0; stops = up_to 16 (placed_stop_at s) }

-- the reply to a slice, and the placed stops that it holds; none after a refusal
pub record TakenStops : Type 0 where
  pub reply : ℕ
  pub stops : PlacedStops

-- what the code answers, as that
abbrev pub taken_stops : Result PlacedStops Refusal → TakenStops
taken_stops (Ok p) = record { reply = done; stops = p }
taken_stops (Err r) = record { reply = number r; stops = no_stops }

-- no layout: 4; else the reply to the placed stops
unfoldable pub taken_stops_reply : List ℕ → ℕ
taken_stops_reply s = given (not (equal s (placed_layout_of (placed_at s)))) malformed or_else check_placed_of (placed_at s)

-- the placed stops where the reply is 0, else none
unfoldable pub taken_stops_of : List ℕ → TakenStops
taken_stops_of s = record { reply = taken_stops_reply s; stops = cond (eqb (taken_stops_reply s) 0) (placed_at s) no_stops }
