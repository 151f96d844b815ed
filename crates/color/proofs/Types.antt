-- What a function is told of stops that it is passed, `c.good`: their colors are made of bytes.
-- Assumes nothing.
use mathlib.Core.List.{List, [], ◌∷◌}
use Prim.Native.Nat.{ℕ, zero, suc}
use native.Mathlib.Omega.{arith}
use mir.Val.{Val}
use lib.ListN.{take}
use denote.Shadow.{shadow}
use denote.Array.{each}
use denote.Struct.Field.{Field}
use Rattle.stops.specs.Check.{placed_of}
use Rattle.stops.specs.declared.PlacedStop.{PlacedStop}
use Rattle.stops.specs.declared.PlacedStops.{PlacedStops}
use Rattle.stops.specs.contracts.PlacedStop as PlacedStopType
use Rattle.stops.specs.contracts.PlacedStops as PlacedStopsType
use Rattle.gradient.proofs.Laws.{blank-bytes}
use Rattle.gradient.specs.Bytes.{ColorBytes}
use Rattle.stops.specs.Bytes.{AllBytes}

-- that a value is one of a field's type, at its machine values
abbrev pub Told : (F : Field) → F.Value → List Val → Type 0
Told F x vs = shadow (F.row.own_val (F.into x) vs)

stop-bytes : (s : PlacedStop) (vs : List Val) → Told PlacedStopType.the_field s vs → ColorBytes s.color
stop-bytes s vs h = record { red = omega arith; green = omega arith; blue = omega arith; alpha = omega arith }

-- of the first n elements of an array
first-bytes : (xs : List PlacedStop) (us : List Val) → shadow (each (PlacedStopType.the_row).Denot (PlacedStopType.the_row).own_val xs us)
    → (n : ℕ) → AllBytes (take n xs)
first-bytes xs us h zero i = blank-bytes
first-bytes [] us h (suc n) i = blank-bytes
first-bytes (x ∷ xs) [] h (suc n) i = absurd h
first-bytes (x ∷ xs) (u ∷ us) h (suc n) zero = stop-bytes x (u ∷ []) h.0
first-bytes (x ∷ xs) (u ∷ us) h (suc n) (suc i) = first-bytes xs us h.1 n i

pub placed-bytes : (p : PlacedStops) (vs : List Val) → Told PlacedStopsType.the_field p vs → AllBytes (placed_of p)
placed-bytes p vs h = first-bytes p.stops h.1.1.1.0.0 h.1.1.1.0.1.1 p.count
