-- The colors of placed stops are made of bytes, as their type says.
-- Assumes nothing.
use Rattle.std.specs.Prelude.{List, ℕ, get_or}
use Rattle.gradient.specs.Bytes.{ColorBytes}
use Rattle.stops.specs.declared.PlacedStop.{PlacedStop}
use Rattle.stops.specs.Blank.{blank_placed}

abbrev pub AllBytes : List PlacedStop → Type 0
AllBytes l = (i : ℕ) → ColorBytes (get_or l i blank_placed).color
