-- What a drawing call leaves in a lent buffer, and how near each pixel is to the exact color: the demands 1, 2 and 3, in one record about a strip.
-- Assumes nothing.
use Rattle.std.specs.Prelude.{◌≡◌, List, map, ℕ, ◌+◌, ◌-◌, ◌*◌, ◌≤◌, ◌<◌, ℤ, pos, length, get_or}
use Rattle.root.specs.Root.{IsRoot}
use Rattle.line.specs.Location.{Rule, location_by}
use Rattle.gradient.specs.declared.Gradient.{Gradient}
use Rattle.stops.specs.Check.{placed_of}
use Rattle.stops.specs.declared.PlacedStops.{PlacedStops}
use Rattle.placing.specs.Placed.{placed_in}
use Rattle.color.specs.Stop.{Channel, Location, stop_of}
use Rattle.color.specs.Byte.{channels}
use Rattle.color.specs.Accuracy.{Within}
use Rattle.color.specs.Paint.{Paint, paint_of, PaintAccurate}
use Rattle.picture.specs.Picture.{strip, buffer}
use Rattle.rows.specs.Pixel.{pixel_of}

-- what a gradient colors a box of w by h pixels by: its stops, placed there, which are repeated where it repeats
abbrev pub gradient_paint : Gradient → ℕ → ℕ → Paint
gradient_paint g w h = paint_of g.repeating (map stop_of (placed_in g w h))

-- .. and where placed stops are handed in beside it
abbrev pub stops_paint : Gradient → PlacedStops → Paint
stops_paint g p = paint_of g.repeating (map stop_of (placed_of p))

-- the four bytes that stand at pixel (i, j) of a buffer, w pixels in a row
abbrev pub bytes_at : List ℕ → ℕ → ℕ → ℕ → Channel → ℕ
bytes_at buf w i j =
    channels (get_or buf (4 * (j * w + i)) 0) (get_or buf (4 * (j * w + i) + 1) 0) (get_or buf (4 * (j * w + i) + 2) 0) (get_or buf (4 * (j * w + i) + 3) 0)

-- A claim at pixel (i, j), s being its location: "The claim is made for every fraction t from s up to but not including s+1, together with the
-- proof that the exact one lies there: with s for q the rule holds, with s+1 it doesn't."
pub record AtPixel (rule : Rule) (i j : ℕ) (claim : ℤ → Location → Type 0) : Type 0 where
  pub exact-location : IsRoot rule.scale (rule.square i j) (location_by rule i j)
  pub accurate : (t : Location) → Within (pos (location_by rule i j)) t → claim (pos (location_by rule i j)) t

-- Demand 3 of the bytes of pixel (i, j), in a picture that is colored by its stops once, over and over, or in one color
abbrev pub PixelAccurate : Rule → Paint → ℕ → ℕ → (Channel → ℕ) → Type 0
PixelAccurate rule paint i j byte = PaintAccurate (AtPixel rule i j) paint byte

-- A call whose answer should be `answer`, for rows a up to, not including, b of a picture w pixels wide, in a buffer that held `before`, has
-- answered r and left `after`. Demand 1: "After a refusal every byte of the lent pixel buffer is zero, and on success so is every byte past the
-- picture." Demand 2: the pixels are those that the rules define. Row j of the picture is row j − a of the buffer.
pub record DrawnRows (answer : ℕ) (rule : Rule) (paint : Paint) (w a b r : ℕ) (before after : List ℕ) : Type 0 where
  pub reply : r ≡ answer
  pub bytes_left : after ≡ buffer r (strip (pixel_of rule paint) w a b) (length before)
  pub pixels : r ≡ 0 → (i j : ℕ) → i < w → a ≤ j → j < b → PixelAccurate rule paint i j (bytes_at after w i (j - a))

-- The same of a picture of w by h pixels. T-08: "The old whole-picture call stays and is the strip of all rows." That its pixels are those of the
-- buffer, row by row, is the law `whole-pixels`.
abbrev pub Drawn : ℕ → Rule → Paint → ℕ → ℕ → ℕ → List ℕ → List ℕ → Type 0
Drawn answer rule paint w h = DrawnRows answer rule paint w 0 h
