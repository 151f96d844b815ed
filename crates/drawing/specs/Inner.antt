-- What the code that draws accepted stops leaves. Assumes nothing.
use Rattle.std.specs.Prelude.{◌≡◌, Bool, true, List, map, ℕ, ◌<◌, length}
use Rattle.std.specs.Int.Signed.{le_z}
use Rattle.line.specs.Location.{Rule}
use Rattle.stops.specs.declared.PlacedStop.{PlacedStop}
use Rattle.color.specs.Stop.{stop_of}
use Rattle.color.specs.Paint.{first_of, last_of, paint_of}
use Rattle.stops.specs.Bytes.{AllBytes}
use Rattle.picture.specs.Picture.{strip, padded}
use Rattle.rows.specs.Pixel.{pixel_of}

-- rows a up to b, then zeros; there are two stops or more, the last not below the first, and their colors are bytes, as their type says
pub record Painted (rule : Rule) (repeating : Bool) (stops : List PlacedStop) (w a b : ℕ) (before after : List ℕ) : Type 0 where
  pub left : after ≡ padded (length before) (strip (pixel_of rule (paint_of repeating (map stop_of stops))) w a b)
  pub two : 1 < length (map stop_of stops)
  pub ordered : le_z (first_of (map stop_of stops)) (last_of (map stop_of stops)) ≡ true
  pub colors : AllBytes stops
