-- The layout of placed stops: 132 bytes, as docs/LAYOUT.md has them.
-- Assumes nothing.
use Rattle.std.specs.Prelude.{List, [], ◌∷◌, ◌++◌, ℕ, ◌%◌}
use Rattle.std.specs.Int.{w32}
use Rattle.std.proofs.Common.{of_z}
use Rattle.words.specs.Word.{word_bytes, each}
use Rattle.stops.specs.declared.PlacedStop.{PlacedStop}
use Rattle.stops.specs.declared.PlacedStops.{PlacedStops}

-- the count in one byte, and three reserved bytes
abbrev pub count_bytes : ℕ → List ℕ
count_bytes n = n % 256 ∷ 0 ∷ 0 ∷ 0 ∷ []

-- a place: the color, one byte to a channel, and the position as a word, in two's complement
abbrev pub stop_bytes : PlacedStop → List ℕ
stop_bytes s = s.color.red ∷ s.color.green ∷ s.color.blue ∷ s.color.alpha ∷ word_bytes (of_z w32 s.position)

unfoldable pub placed_layout_of : PlacedStops → List ℕ
placed_layout_of p = count_bytes p.count ++ each stop_bytes p.stops
