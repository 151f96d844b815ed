-- Layouts and replies worked out by computation.
-- Assumes nothing.
use Rattle.std.specs.Prelude.{◌≡◌, refl, List, [], ◌∷◌, ◌++◌, ℕ, ◌-◌, ℤ, pos, negsuc, length, replicate, set}
use Rattle.stops.specs.Blank.{blank_placed, no_stops, is_blank_placed}
use Rattle.stops.specs.Check.{rising_from, blank_past_placed, places_in, check_placed_of}
use Rattle.stops.specs.declared.PlacedStop.{PlacedStop}
use Rattle.stops.specs.declared.PlacedStops.{PlacedStops}
use Rattle.words.specs.Word.{equal}
use Rattle.stopslayout.specs.Words.{placed_layout_of}
use Rattle.stopslayout.specs.Taken.{placed_at, taken_stops_reply, taken_stops_of}

-- red at a position
abbrev red : ℤ → PlacedStop
red z = record { color = record { red = 255; green = 0; blue = 0; alpha = 255 }; position = z }

-- placed stops with the given first places and blank ones after them
abbrev stops : ℕ → List PlacedStop → PlacedStops
stops n first = record { count = n; stops = first ++ replicate (16 - length first) blank_placed }

-- red 1 px before the start of the line, green with an alpha of 128 at the start, and blue 10 px after it
abbrev three : PlacedStops
three = stops 3
    (red (negsuc 63) ∷ record { color = record { red = 0; green = 128; blue = 0; alpha = 128 }; position = pos 0 }
    ∷ record { color = record { red = 0; green = 0; blue = 255; alpha = 255 }; position = pos 640 } ∷ [])

abbrev three_bytes : List ℕ
three_bytes =
    3 ∷ 0 ∷ 0 ∷ 0
    ∷ 255 ∷ 0 ∷ 0 ∷ 255 ∷ 192 ∷ 255 ∷ 255 ∷ 255
    ∷ 0 ∷ 128 ∷ 0 ∷ 128 ∷ 0 ∷ 0 ∷ 0 ∷ 0
    ∷ 0 ∷ 0 ∷ 255 ∷ 255 ∷ 128 ∷ 2 ∷ 0 ∷ 0 ∷ replicate 104 0

layout : placed_layout_of three ≡ three_bytes
unfolding placed_layout_of
layout = refl

taken : taken_stops_of three_bytes ≡ record { reply = 0; stops = three }
unfolding taken_stops_of taken_stops_reply placed_at placed_layout_of equal check_placed_of rising_from blank_past_placed is_blank_placed places_in
taken = refl

-- a reserved byte that is not 0; one byte too many; a list that falls; a count of 17 with 16 places that are sound
refused :
    (taken_stops_of (set three_bytes 2 1) ≡ record { reply = 4; stops = no_stops })
    × (taken_stops_reply (three_bytes ++ (0 ∷ [])) ≡ 4)
    × (taken_stops_reply (placed_layout_of (stops 2 (red (pos 10) ∷ red (pos 9) ∷ []))) ≡ 4)
    × (taken_stops_reply (placed_layout_of (stops 17 (replicate 16 (red (pos 10))))) ≡ 6)
unfolding taken_stops_of taken_stops_reply placed_at placed_layout_of equal check_placed_of rising_from blank_past_placed is_blank_placed places_in
refused = (refl, refl, refl, refl)
