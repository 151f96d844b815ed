-- The average color of stops. The sentences quoted are document 003's, of "find the average color of a gradient".
-- Assumes nothing.
use Rattle.std.specs.Prelude.{List, [], ◌∷◌, ℕ, ◌+◌, ◌*◌, ◌≤◌, ◌<◌, min, max}
use Rattle.numbers.specs.Fraction.{Fraction, ◌⁄◌, ◌≤ᶠ◌, off}
use Rattle.color.specs.Stop.{Channel, alpha, Stop}
use Rattle.color.specs.Byte.{stop_byte}

-- the distance between neighbors where the stops are "equally spaced"
abbrev pub equally_apart : Stop → Stop → ℕ
equally_apart a b = 1

-- "total-length as the distance between first and last color stops", where d is the distance between neighbors
unfoldable pub total_length : (Stop → Stop → ℕ) → List Stop → ℕ
total_length d [] = 0
total_length d (a ∷ []) = 0
total_length d (a ∷ b ∷ l) = d a b + total_length d (b ∷ l)

-- "For each adjacent pair of color-stops, define weight as half the distance between the two color-stops, divided by total-length. Add two
-- entries to list, the first obtained by representing the color of the first color-stop in premultiplied sRGBA and scaling all of the
-- components by weight, and the second obtained in the same way with the second color-stop." Their sum, with twice the total length below the line:
unfoldable pub entries_sum : (Stop → Stop → ℕ) → Channel → List Stop → ℕ
entries_sum d c [] = 0
entries_sum d c (a ∷ []) = 0
entries_sum d c (a ∷ b ∷ l) = d a b * (a.value c + b.value c) + entries_sum d c (b ∷ l)

-- "Sum the entries of list component-wise to produce the average color": P/255, as at a single stop
abbrev pub average_of : (Stop → Stop → ℕ) → List Stop → Channel → Fraction
average_of d stops c = entries_sum d c stops ⁄ (2 * total_length d stops * 255)

-- the least and the greatest byte of all the stops
unfoldable pub least_of : Channel → List Stop → ℕ
least_of c [] = 255
least_of c (a ∷ l) = min (stop_byte c a) (least_of c l)

unfoldable pub greatest_of : Channel → List Stop → ℕ
greatest_of c [] = 0
greatest_of c (a ∷ l) = max (stop_byte c a) (greatest_of c l)

-- Demand 3 of the bytes of a picture in one color, x being the exact one. T-01: "a one-colour picture is off by at most 1/2 from that average, and
-- in place of the stops around it each byte lies between the least and the greatest byte of all the stops".
pub record OneColor (x : Channel → Fraction) (stops : List Stop) (byte : Channel → ℕ) : Type 0 where
  pub defined : (c : Channel) → 0 < (x c).den
  pub near : (c : Channel) → off (byte c) (x c) ≤ᶠ 1 ⁄ 2
  pub from-least : (c : Channel) → least_of c stops ≤ byte c
  pub to-greatest : (c : Channel) → byte c ≤ greatest_of c stops
  -- "Red, green and blue never exceed alpha."
  pub within-alpha : (c : Channel) → byte c ≤ byte alpha
