-- The numbers of placed stops: their positions, biased, and their premultiplied channels.
-- Assumes nothing.
use Rattle.std.specs.Prelude.{◌≡◌, true, List, [], ◌∷◌, map, ℕ, ◌≤◌}
use Rattle.numbers.specs.Biased.{biased}
use Rattle.gradient.specs.declared.Color.{Color}
use Rattle.stops.specs.Check.{placed_of, places_in, rising}
use Rattle.stops.specs.declared.PlacedStop.{PlacedStop}
use Rattle.stops.specs.declared.PlacedStops.{PlacedStops}
use Rattle.color.specs.Stop.{red, green, blue, alpha, premultiplied}

-- stops that can be lent: at most 16, at positions from −2^25 to 2^25 units that never fall
pub record Lendable (p : PlacedStops) : Type 0 where
  pub fit : p.count ≤ 16
  pub range : places_in p ≡ true
  pub rising : rising (placed_of p) ≡ true

-- the positions, biased
abbrev pub positions_of : List PlacedStop → List ℕ
positions_of l = map (λ s. biased s.position) l

-- the premultiplied channels, four numbers to a stop
abbrev pub four_of : Color → List ℕ → List ℕ
four_of c rest = premultiplied c red ∷ premultiplied c green ∷ premultiplied c blue ∷ premultiplied c alpha ∷ rest

unfoldable pub values_of : List PlacedStop → List ℕ
values_of [] = []
values_of (s ∷ l) = four_of s.color (values_of l)
