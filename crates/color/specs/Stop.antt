-- Color stops as the rules for colors take them, and the one or two stops around a location on the gradient line. The sentences quoted are
-- document 01's.
-- Assumes nothing.
use Rattle.std.specs.Prelude.{List, [], ◌∷◌, Bool, true, false, cond, ℕ, zero, suc, ◌*◌, eqb, ℤ, pos, ◌*ℤ◌, length, get_or}
use Rattle.std.specs.Int.Signed.{le_z}
use Rattle.gradient.specs.declared.Color.{Color}
use Rattle.stops.specs.declared.PlacedStop.{PlacedStop}

pub data Channel : Type 0 where
  red green blue alpha : Channel

-- "Each channel is premultiplied as a whole number: colour times alpha, and 255 times alpha for alpha itself; call them P and Q."
unfoldable pub premultiplied : Color → Channel → ℕ
premultiplied c red = c.red * c.alpha
premultiplied c green = c.green * c.alpha
premultiplied c blue = c.blue * c.alpha
premultiplied c alpha = 255 * c.alpha

-- a placed stop with its channels premultiplied, and its position in units
pub record Stop : Type 0 where
  pub value : Channel → ℕ
  pub position : ℤ

abbrev pub stop_of : PlacedStop → Stop
stop_of s = record { value = premultiplied s.color; position = s.position }

-- what stands past the end of a list, where no rule looks
abbrev pub no_stop : Stop
no_stop = record { value = λ c. 0; position = pos 0 }

-- a location on the gradient line in units: the fraction num / den, of either sign
pub record Location : Type 0 where
  pub num : ℤ
  pub den : ℕ

-- "Let s be the location."
abbrev pub whole : ℤ → Location
whole s = record { num = s; den = 1 }

-- the position p is at or below the location t: p · den ≤ num
abbrev pub at_or_below : Location → ℤ → Bool
at_or_below t p = le_z (p *ℤ pos t.den) t.num

-- the place, counted from 1, of the last element that passes a test; 0 where none does
abbrev pub placed : Bool → ℕ → ℕ
placed b (suc k) = suc (suc k)
placed true zero = 1
placed false zero = 0

unfoldable pub last_place : {A : Type 0} → (A → Bool) → List A → ℕ
last_place f [] = 0
last_place f (a ∷ rest) = placed (f a) (last_place f rest)

-- one stop alone, or two neighbors
pub data Around : Type 0 where
  single : Stop → Around
  pair : Stop → Stop → Around

-- "With no stop at or below s, the first stop's colour. If the last stop is at or below s, the last stop's. Else take the last stop at or
-- below s, at A, and the next one, at B > s."
abbrev pub around_place : List Stop → ℕ → Around
around_place stops zero = single (get_or stops 0 no_stop)
around_place stops (suc i) =
    cond (eqb (suc i) (length stops))
    (single (get_or stops i no_stop))
    (pair (get_or stops i no_stop) (get_or stops (suc i) no_stop))

-- the stops around t: "the one or two that the rule takes"
unfoldable pub around : List Stop → Location → Around
around stops t = around_place stops (last_place (λ a. at_or_below t a.position) stops)
