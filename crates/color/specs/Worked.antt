-- Colors of locations worked out by computation.
-- Assumes nothing.
use Rattle.std.specs.Prelude.{◌≡◌, refl, true, List, [], ◌∷◌, map, ℕ, ℤ, pos, negsuc}
use Rattle.numbers.specs.Floor.{remainder}
use Rattle.gradient.specs.declared.Color.{Color}
use Rattle.stops.specs.declared.PlacedStop.{PlacedStop}
use Rattle.color.specs.Stop.{stop_of, premultiplied, last_place, around}
use Rattle.color.specs.Byte.{mixed, bytes, color_at}
use Rattle.color.specs.Average.{total_length, entries_sum}
use Rattle.color.specs.Paint.{paint_of, moved_to, paint_at}

abbrev color : ℕ → ℕ → ℕ → ℕ → Color
color r g b a = record { red = r; green = g; blue = b; alpha = a }

abbrev red : Color
red = color 255 0 0 255

abbrev blue : Color
blue = color 0 0 255 255

abbrev transparent : Color
transparent = color 0 0 0 0

infix 70 ◌at◌
abbrev ◌at◌ : Color → ℤ → PlacedStop
c at p = record { color = c; position = p }

-- the bytes at locations
abbrev pixels : List PlacedStop → List ℤ → List (List ℕ)
pixels l ss = map (λ s. bytes (color_at (map stop_of l) s)) ss

-- P2 of document 01, on its line of 128 units; before the first stop; from the last one on
p2 : pixels (red at pos 0 ∷ transparent at pos 128 ∷ []) (pos 32 ∷ pos 96 ∷ negsuc 0 ∷ pos 128 ∷ pos 500 ∷ [])
    ≡ (191 ∷ 0 ∷ 0 ∷ 191 ∷ []) ∷ (64 ∷ 0 ∷ 0 ∷ 64 ∷ []) ∷ (255 ∷ 0 ∷ 0 ∷ 255 ∷ []) ∷ (0 ∷ 0 ∷ 0 ∷ 0 ∷ []) ∷ (0 ∷ 0 ∷ 0 ∷ 0 ∷ []) ∷ []
unfolding premultiplied last_place around mixed
p2 = refl

-- at a shared position the later stop
shared : pixels (red at pos 0 ∷ red at pos 64 ∷ blue at pos 64 ∷ blue at pos 128 ∷ []) (pos 63 ∷ pos 64 ∷ [])
    ≡ (255 ∷ 0 ∷ 0 ∷ 255 ∷ []) ∷ (0 ∷ 0 ∷ 255 ∷ 255 ∷ []) ∷ []
unfolding premultiplied last_place around mixed
shared = refl

-- P9 of document 01: a stop below 0
p9 : pixels (red at negsuc 3199 ∷ color 255 255 0 255 at pos 6400 ∷ []) (pos 0 ∷ []) ≡ (255 ∷ 85 ∷ 0 ∷ 255 ∷ []) ∷ []
unfolding premultiplied last_place around mixed
p9 = refl

-- ---- repeated
abbrev repeated_pixels : List PlacedStop → List ℤ → List (List ℕ)
repeated_pixels l ss = map (λ s. bytes (paint_at (paint_of true (map stop_of l)) s)) ss

-- from 64 up to but not including 192: at 64, at the end of the period, where the next begins, left of the first stop, and below 0
bars : repeated_pixels (red at pos 64 ∷ blue at pos 192 ∷ []) (pos 64 ∷ pos 191 ∷ pos 192 ∷ pos 63 ∷ negsuc 63 ∷ negsuc 64 ∷ [])
    ≡ (255 ∷ 0 ∷ 0 ∷ 255 ∷ []) ∷ (2 ∷ 0 ∷ 253 ∷ 255 ∷ []) ∷ (255 ∷ 0 ∷ 0 ∷ 255 ∷ []) ∷ (2 ∷ 0 ∷ 253 ∷ 255 ∷ []) ∷ (255 ∷ 0 ∷ 0 ∷ 255 ∷ []) ∷ (2 ∷ 0 ∷ 253 ∷ 255 ∷ []) ∷ []
unfolding premultiplied last_place around mixed moved_to remainder
bars = refl

-- a first stop below 0, and a period of one unit
unit : repeated_pixels (red at negsuc 9 ∷ blue at negsuc 8 ∷ []) (pos 0 ∷ pos 7 ∷ negsuc 9 ∷ negsuc 20 ∷ [])
    ≡ (255 ∷ 0 ∷ 0 ∷ 255 ∷ []) ∷ (255 ∷ 0 ∷ 0 ∷ 255 ∷ []) ∷ (255 ∷ 0 ∷ 0 ∷ 255 ∷ []) ∷ (255 ∷ 0 ∷ 0 ∷ 255 ∷ []) ∷ []
unfolding premultiplied last_place around mixed moved_to remainder
unit = refl

-- "red, white, blue all at 0 gives 191 128 191 255"
average : repeated_pixels (red at pos 0 ∷ color 255 255 255 255 at pos 0 ∷ blue at pos 0 ∷ []) (pos 0 ∷ pos 500 ∷ [])
    ≡ (191 ∷ 128 ∷ 191 ∷ 255 ∷ []) ∷ (191 ∷ 128 ∷ 191 ∷ 255 ∷ []) ∷ []
unfolding premultiplied total_length entries_sum
average = refl

-- premultiplied: half-transparent red and opaque blue
average-premultiplied : repeated_pixels (color 255 0 0 128 at pos 9 ∷ blue at pos 9 ∷ []) (pos 0 ∷ []) ≡ (64 ∷ 0 ∷ 128 ∷ 192 ∷ []) ∷ []
unfolding premultiplied total_length entries_sum
average-premultiplied = refl
