-- Demand 3 of what a picture is colored by.
-- Assumes nothing.
use mathlib.Core.Path.{◌≡◌, refl, ap, subst, ◌∙◌}
use mathlib.Core.Bool.{Bool, true, false}
use mathlib.Core.List.{List, [], ◌∷◌, map}
use Prim.Native.Nat.{ℕ, zero, suc, ◌-◌, ◌<◌}
use native.Mathlib.Nat.{le_of_suc-le-suc}
use native.Mathlib.Omega.{arith}
use lib.IntN.{ℤ}
use lib.Signed.{le_z}
use lib.ListN.{length, get_or, length-map}
use Rattle.numbers.specs.Fraction.{nearest}
use Rattle.stops.specs.Blank.{blank_placed}
use Rattle.stops.specs.Bytes.{AllBytes}
use Rattle.stops.specs.Check.{rising}
use Rattle.stops.proofs.Rising.{rising-at}
use Rattle.stops.specs.declared.PlacedStop.{PlacedStop}
use Rattle.color.specs.Stop.{Stop, no_stop, Location, stop_of}
use Rattle.color.specs.Byte.{byte_of}
use Rattle.color.specs.Accuracy.{Within}
use Rattle.color.specs.Average.{equally_apart, total_length, average_of, OneColor}
use Rattle.color.specs.Paint.{first_of, last_of, period_of, repeated_by, paint_of, moved, moved_location, paint_at, RepeatedAccurate, PaintAccurate}
use Rattle.color.proofs.Accuracy.{all_sound, byte-each, accurate}
use Rattle.color.proofs.Moves.{together, last-is}
use Rattle.color.proofs.Average.{one-color}

-- the last of stops whose positions never fall is not below the first
get_or-position : (l : List PlacedStop) (i : ℕ) → i < length l → (get_or (map stop_of l) i no_stop).position ≡ (get_or l i blank_placed).position
get_or-position [] i h = absurd (omega arith)
get_or-position (s ∷ l) zero h = refl
get_or-position (s ∷ l) (suc i) h = get_or-position l i (le_of_suc-le-suc h)

pub ordered : (l : List PlacedStop) → rising l ≡ true → 0 < length l → le_z (first_of (map stop_of l)) (last_of (map stop_of l)) ≡ true
ordered l r h =
    let k : length (map stop_of l) - 1 ≡ length l - 1 = ap (λ (n : ℕ). n - 1) (length-map l stop_of) in
    let first = get_or-position l 0 h in
    let last = ap (λ (n : ℕ). (get_or (map stop_of l) n no_stop).position) k ∙ get_or-position l (length l - 1) (omega arith) in
    rw (first, last) (rising-at l r 0 (length l - 1) (omega arith) (omega arith))

-- two stops or more have a length, equally spaced
some-length : (l : List Stop) → 1 < length l → 0 < total_length equally_apart l
unfolding total_length
some-length [] h = absurd (omega arith)
some-length (a ∷ []) h = absurd (omega arith)
some-length (a ∷ b ∷ l) h = omega arith

module _ (l : List PlacedStop) (b : AllBytes l) (two : 1 < length (map stop_of l)) (rising : le_z (first_of (map stop_of l)) (last_of (map stop_of l)) ≡ true) where
  abbrev stops : List Stop
  stops = map stop_of l

  repeated-accurate : (p : ℕ) → suc p ≡ period_of stops → (s : ℤ) (t : Location) → Within s t → RepeatedAccurate stops s t (byte_of (paint_at (repeated_by (suc p) stops) s))
  repeated-accurate p e s t w =
      let m = together (first_of stops) s (period_of stops) t (omega arith) w in
      record {
        periods = m.periods;
        location = m.whole;
        exact-location = m.part;
        from_first = m.from_first;
        below_last = rw (last-is (first_of stops) (last_of stops) rising) at m.below_last;
        accurate = accurate l b (moved stops s) (moved_location stops t) m.within;
      }

  one-accurate : (s : ℤ) → OneColor (average_of equally_apart stops) stops (byte_of (paint_at (repeated_by 0 stops) s))
  one-accurate s =
      subst (OneColor (average_of equally_apart stops) stops) (byte-each (λ c. nearest (average_of equally_apart stops c)))
      (one-color equally_apart stops (some-length stops two) (λ i. (all_sound l b i).below-alpha))

  module _ (s : ℤ) (At : (ℤ → Location → Type 0) → Type 0) (at : (claim : ℤ → Location → Type 0) → ((t : Location) → Within s t → claim s t) → At claim) where
    by-period : (p : ℕ) → p ≡ period_of stops → PaintAccurate At (repeated_by p stops) (byte_of (paint_at (repeated_by p stops) s))
    by-period zero e = one-accurate s
    by-period (suc p) e = at _ (repeated-accurate p e s)

    -- the bytes of the location s, where whatever holds at it and at every t within is `At` it
    pub paint-accurate : (repeating : Bool) → PaintAccurate At (paint_of repeating stops) (byte_of (paint_at (paint_of repeating stops) s))
    paint-accurate false = at _ (accurate l b s)
    paint-accurate true = by-period (period_of stops) refl
