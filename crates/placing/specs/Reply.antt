-- The reply to a gradient and a box, and what is handed out. Document 01: "placing the stops .. in a box uses 1 and 3 to 6 and hands out no
-- stops" on a refusal. (3 is a text's.)
-- Assumes nothing.
use Rattle.std.specs.Prelude.{ℕ, zero, suc, Result, Ok, Err}
use Rattle.replies.specs.Replies.{done, ◌or_else◌}
use Rattle.replies.specs.Refused.{number}
use Rattle.replies.specs.declared.Refusal.{Refusal}
use Rattle.replies.specs.Room.{box_reply}
use Rattle.gradient.specs.declared.Gradient.{Gradient}
use Rattle.gradient.specs.Check.{check_of}
use Rattle.stops.specs.declared.PlacedStops.{PlacedStops}
use Rattle.stops.specs.Blank.{no_stops}
use Rattle.placing.specs.Placed.{placed_in, listed}

-- the reply, and the placed stops where it is 0, none where it is not
pub record Placing : Type 0 where
  pub reply : ℕ
  pub stops : PlacedStops

-- what the code answers, as that
abbrev pub placing : Result PlacedStops Refusal → Placing
placing (Ok p) = record { reply = done; stops = p }
placing (Err r) = record { reply = number r; stops = no_stops }

-- the box's reply, then the gradient's own
unfoldable pub place_reply : Gradient → ℕ → ℕ → ℕ
place_reply g w h = box_reply w h or_else check_of g

-- the stops where the reply is 0, else none
abbrev pub handed_out : ℕ → PlacedStops → PlacedStops
handed_out zero p = p
handed_out (suc r) p = no_stops

unfoldable pub place_of : Gradient → ℕ → ℕ → Placing
place_of g w h = record { reply = place_reply g w h; stops = handed_out (place_reply g w h) (listed (placed_in g w h)) }
