-- What stands in an unused place, and in place of placed stops after a refusal.
-- Assumes nothing.
use Rattle.std.specs.Prelude.{Bool, ◌&&◌, eqb, pos, nat_abs, replicate}
use Rattle.gradient.specs.Blank.{blank_color, is_clear}
use Rattle.stops.specs.declared.PlacedStop.{PlacedStop}
use Rattle.stops.specs.declared.PlacedStops.{PlacedStops}

abbrev pub blank_placed : PlacedStop
blank_placed = record { color = blank_color; position = pos 0 }

-- no stops
abbrev pub no_stops : PlacedStops
no_stops = record { count = 0; stops = replicate 16 blank_placed }

-- whether a place is blank
unfoldable pub is_blank_placed : PlacedStop → Bool
is_blank_placed s = is_clear s.color && eqb (nat_abs s.position) 0
