-- The placed stops of a gradient.
-- Assumes nothing.
use Rattle.std.specs.Prelude.{List, [], ◌∷◌, ◌++◌, map, ℕ, ◌-◌, ℤ, length, replicate}
use Rattle.gradient.specs.declared.Stop.{Stop}
use Rattle.gradient.specs.declared.Gradient.{Gradient}
use Rattle.gradient.specs.Check.{stops_of}
use Rattle.line.specs.Line.{length_of}
use Rattle.stops.specs.declared.PlacedStop.{PlacedStop}
use Rattle.stops.specs.declared.PlacedStops.{PlacedStops}
use Rattle.stops.specs.Blank.{blank_placed}
use Rattle.placing.specs.Spot.{Spot, spot_of}
use Rattle.placing.specs.Fixup.{fixup}

-- the positions of stops on a line of so many units
abbrev pub spots_of : ℕ → List Stop → List Spot
spots_of line stops = map (λ s. spot_of line s.position) stops

-- each stop's color at its position
abbrev pub placed_at : Stop → ℤ → PlacedStop
placed_at s z = record { color = s.color; position = z }

unfoldable pub at_positions : List Stop → List ℤ → List PlacedStop
at_positions [] zs = []
at_positions (s ∷ stops) [] = []
at_positions (s ∷ stops) (z ∷ zs) = placed_at s z ∷ at_positions stops zs

-- the stops placed on a line of so many units
unfoldable pub placed_stops : ℕ → List Stop → List PlacedStop
placed_stops line stops = at_positions stops (fixup line (spots_of line stops))

-- the stops of a gradient placed in a box of w by h pixels
unfoldable pub placed_in : Gradient → ℕ → ℕ → List PlacedStop
placed_in g w h = placed_stops (length_of g.shape w h) (stops_of g)

-- their positions
abbrev pub positions_in : Gradient → ℕ → ℕ → List ℤ
positions_in g w h = map (λ (p : PlacedStop). p.position) (placed_in g w h)

-- a list of placed stops as a value: blank places stand after them
abbrev pub listed : List PlacedStop → PlacedStops
listed l = record { count = length l; stops = l ++ replicate (16 - length l) blank_placed }
