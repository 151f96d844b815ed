-- How a picture is colored: by its stops once, by its stops over and over, or in one color. The sentences quoted are T-01's.
-- Assumes nothing.
use Rattle.std.specs.Prelude.{◌≡◌, Bool, true, false, List, ℕ, zero, suc, ◌-◌, ◌*◌, ℤ, pos, ◌+ℤ◌, ◌-ℤ◌, ◌*ℤ◌, length, get_or}
use Rattle.std.specs.Int.Signed.{le_z}
use Rattle.numbers.specs.Floor.{remainder}
use Rattle.numbers.specs.Fraction.{Fraction, nearest}
use Rattle.color.specs.Stop.{Channel, Stop, no_stop, Location}
use Rattle.color.specs.Accuracy.{Accurate}
use Rattle.color.specs.Average.{equally_apart, average_of, OneColor}
use Rattle.color.specs.Byte.{units, rgba, color_at}
use Rattle.color.specs.declared.Rgba.{Rgba}

-- stops, and for one color the exact one
pub data Paint : Type 0 where
  once : List Stop → Paint
  repeated : List Stop → Paint
  one_color : (Channel → Fraction) → List Stop → Paint

-- "first placed stop F, last T and period T−F"
abbrev pub first_of : List Stop → ℤ
first_of stops = (get_or stops 0 no_stop).position

abbrev pub last_of : List Stop → ℤ
last_of stops = (get_or stops (length stops - 1) no_stop).position

abbrev pub period_of : List Stop → ℕ
period_of stops = units (first_of stops) (last_of stops)

-- "If the period is 0, the picture is one colour: the average that source document 003 describes, with stops equally spaced"
abbrev pub repeated_by : ℕ → List Stop → Paint
repeated_by zero stops = one_color (average_of equally_apart stops) stops
repeated_by (suc p) stops = repeated stops

-- how stops color a picture that repeats them or does not
abbrev pub paint_of : Bool → List Stop → Paint
paint_of false stops = once stops
paint_of true stops = repeated_by (period_of stops) stops

-- "a location is moved by whole periods until it lies from F up to but not including T". The law `together` says that it is.
unfoldable pub moved_to : ℤ → ℕ → ℤ → ℤ
moved_to F p s = F +ℤ pos (remainder (s -ℤ F) p)

abbrev pub moved : List Stop → ℤ → ℤ
moved stops s = moved_to (first_of stops) (period_of stops) s

-- the same of a fraction num / den: F and the period are multiplied by den
abbrev pub moved_location : List Stop → Location → Location
moved_location stops t = record { num = moved_to (first_of stops *ℤ pos t.den) (period_of stops * t.den) t.num; den = t.den }

-- ".. and coloured as before"; one color "rounded once, halves up"
abbrev pub paint_at : Paint → ℤ → Rgba
paint_at (once stops) s = color_at stops s
paint_at (repeated stops) s = color_at stops (moved stops s)
paint_at (one_color x stops) s = rgba (λ c. nearest (x c))

-- ---- demand 3
-- "Demand 3 then reads over the repeated stops": s and t are moved by the same number of periods, s until it lies from F up to but not including T,
-- and the claim is that of the stops at the moved locations
pub record RepeatedAccurate (stops : List Stop) (s : ℤ) (t : Location) (byte : Channel → ℕ) : Type 0 where
  pub periods : ℤ
  pub location : moved stops s ≡ s +ℤ periods *ℤ pos (period_of stops)
  pub exact-location : (moved_location stops t).num ≡ t.num +ℤ periods *ℤ pos (period_of stops * t.den)
  pub from_first : le_z (first_of stops) (moved stops s) ≡ true
  pub below_last : le_z (last_of stops) (moved stops s) ≡ false
  pub accurate : Accurate stops (moved stops s) (moved_location stops t) byte

-- the claims about four bytes, where `At claim` is that a claim holds at the pixel's location s and every t; one color has no location
abbrev pub PaintAccurate : ((ℤ → Location → Type 0) → Type 0) → Paint → (Channel → ℕ) → Type 0
PaintAccurate At (once stops) byte = At (λ s t. Accurate stops s t byte)
PaintAccurate At (repeated stops) byte = At (λ s t. RepeatedAccurate stops s t byte)
PaintAccurate At (one_color x stops) byte = OneColor x stops byte
