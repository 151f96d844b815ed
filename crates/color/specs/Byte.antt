-- The color of a location on the gradient line: exact, and as bytes. The sentences quoted are document 01's.
-- Assumes nothing.
use Rattle.std.specs.Prelude.{List, [], ◌∷◌, ℕ, ◌+◌, ◌*◌, ℤ, pos, nat_abs, ◌-ℤ◌, ◌*ℤ◌}
use Rattle.numbers.specs.Fraction.{Fraction, ◌⁄◌, nearest}
use Rattle.color.specs.Stop.{Channel, red, green, blue, alpha, Stop, Around, single, pair, Location, whole, around}
use Rattle.color.specs.declared.Rgba.{Rgba}

-- the units from a up to b, where a is not above b
abbrev pub units : ℤ → ℤ → ℕ
units a b = nat_abs (b -ℤ a)

-- "The exact colour at t, for each channel, is P/255 of the first stop when none is at or below t, P/255 of the last when it is at or below
-- t, else (P(B−t) + Q(t−A)) / (255(B−A)), A and B found by t": with t = num / den the last is multiplied by den, above and below
unfoldable pub mixed : Channel → Location → Around → Fraction
mixed c t (single a) = a.value c ⁄ 255
mixed c t (pair a b) =
    (a.value c * units t.num (b.position *ℤ pos t.den) + b.value c * units (a.position *ℤ pos t.den) t.num)
    ⁄ (255 * units a.position b.position * t.den)

abbrev pub exact : Channel → List Stop → Location → Fraction
exact c stops t = mixed c t (around stops t)

-- "The byte is (P(B−s) + Q(s−A)) / (255(B−A)) to the nearest whole, halves up; at a single stop, P/255 likewise."
abbrev pub byte_at : Channel → List Stop → ℤ → ℕ
byte_at c stops s = nearest (exact c stops (whole s))

-- "A stop's byte is P/255 to the nearest whole, halves up"
abbrev pub stop_byte : Channel → Stop → ℕ
stop_byte c a = nearest (a.value c ⁄ 255)

-- a number for each channel
abbrev pub channels : ℕ → ℕ → ℕ → ℕ → Channel → ℕ
channels r g b a red = r
channels r g b a green = g
channels r g b a blue = b
channels r g b a alpha = a

-- four bytes as a pixel holds them, from one for each channel, and the other way round
abbrev pub rgba : (Channel → ℕ) → Rgba
rgba f = record { red = f red; green = f green; blue = f blue; alpha = f alpha }

abbrev pub byte_of : Rgba → Channel → ℕ
byte_of p = channels p.red p.green p.blue p.alpha

-- "Bytes go red, green, blue, alpha"
abbrev pub bytes : Rgba → List ℕ
bytes p = p.red ∷ p.green ∷ p.blue ∷ p.alpha ∷ []

-- the color of the whole location s
abbrev pub color_at : List Stop → ℤ → Rgba
color_at stops s = rgba (λ c. byte_at c stops s)
