-- The replies of the drawing calls, for a box of w by h pixels, or rows a up to b of it, and a buffer of n bytes: first the box, the rows and the
-- buffer, then what is handed in.
-- Assumes nothing.
use Rattle.std.specs.Prelude.{ℕ}
use Rattle.replies.specs.Replies.{◌or_else◌, lowest}
use Rattle.replies.specs.Room.{strip_reply, room_reply}
use Rattle.gradient.specs.Check.{check_of}
use Rattle.gradient.specs.declared.Gradient.{Gradient}
use Rattle.stops.specs.Check.{check_placed_of}
use Rattle.stops.specs.declared.PlacedStops.{PlacedStops}

abbrev pub gradient_rows_reply : Gradient → ℕ → ℕ → ℕ → ℕ → ℕ → ℕ
gradient_rows_reply g w h a b n = strip_reply w h a b n or_else check_of g

abbrev pub gradient_reply : Gradient → ℕ → ℕ → ℕ → ℕ
gradient_reply g w h n = room_reply w h n or_else check_of g

-- a gradient and placed stops, judged together
abbrev pub stops_reply : Gradient → PlacedStops → ℕ → ℕ → ℕ → ℕ
stops_reply g p w h n = room_reply w h n or_else lowest (check_of g) (check_placed_of p)
