-- The reply to placed stops that are handed in as a value. Document 01: "A chart or stop list handed in .. that breaks its layout in docs/
-- also gets 4, before its contents are judged". A list with a stop below an earlier one breaks its layout.
-- Assumes nothing.
use Rattle.std.specs.Prelude.{◌≡◌, Bool, true, not, ◌&&◌, List, [], ◌∷◌, ℕ, ◌≤◌, ◌<◌, leb, ltb, ℤ, nat_abs, get_or, take, drop}
use Rattle.std.specs.Int.Signed.{le_z}
use Rattle.replies.specs.Replies.{malformed, out_of_range, too_many_stops, given, ◌or_else◌}
use Rattle.gradient.specs.Lists.{all}
use Rattle.stops.specs.declared.PlacedStop.{PlacedStop}
use Rattle.stops.specs.declared.PlacedStops.{PlacedStops}
use Rattle.stops.specs.Blank.{blank_placed, is_blank_placed}

-- the stops in their order, and the places after them
abbrev pub placed_of : PlacedStops → List PlacedStop
placed_of p = take p.count p.stops

-- no stop is below the one before it, which is at z or above
unfoldable pub rising_from : ℤ → List PlacedStop → Bool
rising_from z [] = true
rising_from z (s ∷ rest) = le_z z s.position && rising_from s.position rest

-- no stop is below an earlier one
abbrev pub rising : List PlacedStop → Bool
rising [] = true
rising (s ∷ rest) = rising_from s.position rest

unfoldable pub blank_past_placed : PlacedStops → Bool
blank_past_placed p = all is_blank_placed (drop p.count p.stops)

-- the range of a position that is handed in: −2^25 to 2^25 units
abbrev pub place_in : PlacedStop → Bool
place_in s = leb (nat_abs s.position) 33554432

unfoldable pub places_in : PlacedStops → Bool
places_in p = all place_in (placed_of p)

-- fewer than two stops, a stop below an earlier one or an unused place that is not blank: 4; a position out of its range: 5;
-- more than 16 stops: 6
unfoldable pub check_placed_of : PlacedStops → ℕ
check_placed_of p =
    given (ltb p.count 2) malformed
    or_else given (not (rising (placed_of p))) malformed
    or_else given (not (blank_past_placed p)) malformed
    or_else given (not (places_in p)) out_of_range
    or_else given (ltb 16 p.count) too_many_stops

-- what the reply 0 says of placed stops
pub record AcceptedPlaced (p : PlacedStops) : Type 0 where
  pub two : 2 ≤ p.count
  pub fit : p.count ≤ 16
  pub rising : rising (placed_of p) ≡ true
  pub blank : blank_past_placed p ≡ true
  pub in-range : (i : ℕ) → i < p.count → nat_abs (get_or p.stops i blank_placed).position ≤ 33554432
