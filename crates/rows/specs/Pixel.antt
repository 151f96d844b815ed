-- The bytes of a pixel and of a strip, and what is asked of a line, a strip and its buffer.
-- Assumes nothing.
use Rattle.std.specs.Prelude.{List, ℕ, ◌-◌, ◌*◌, ◌≤◌, ◌<◌, pos}
use Rattle.line.specs.Box.{Box}
use Rattle.line.specs.Location.{Rule, location_by}
use Rattle.line.specs.Represented.{Sound, rule_in}
use Rattle.line.specs.declared.Line.{Line}
use Rattle.color.specs.Byte.{bytes}
use Rattle.color.specs.Paint.{Paint, paint_at}
use Rattle.picture.specs.Picture.{strip}
use Rattle.words.specs.Word.{word_bytes}
use Rattle.ramp.specs.Ramp.{color_in, Stops}
use Rattle.rows.specs.declared.Strip.{Strip}

-- the bytes of pixel (i, j): the color at its location
abbrev pub pixel_of : Rule → Paint → ℕ → ℕ → List ℕ
pixel_of rule paint i j = bytes (paint_at paint (pos (location_by rule i j)))

-- .. where `color` gives the color of a location as a word
abbrev pub pixel_by : Rule → (ℕ → ℕ) → ℕ → ℕ → List ℕ
pixel_by rule color i j = word_bytes (color (location_by rule i j))

-- .. where a ramp gives it
abbrev pub ramp_pixel : List ℕ → Line → ℕ → ℕ → ℕ → ℕ → List ℕ
ramp_pixel ramp l w h = pixel_by (rule_in l w h) (color_in ramp)

-- the bytes of a strip, colored by a ramp
abbrev pub strip_of : List ℕ → Line → Strip → List ℕ
strip_of ramp l z = strip (ramp_pixel ramp l z.w z.h) z.w z.a z.b

-- a box, and a line that can be drawn along in it
pub record Placed (l : Line) (w h : ℕ) : Type 0 where
  pub box : Box w h
  pub sound : Sound l

-- a strip has a row or more, within its box, and n bytes hold them
pub record Rows (z : Strip) (n : ℕ) : Type 0 where
  pub some : z.a < z.b
  pub within : z.b ≤ z.h
  pub room : 4 * z.w * (z.b - z.a) ≤ n

-- stops, a line, and a strip with n bytes for it
pub record Drawable (rp : List ℕ) (l : Line) (z : Strip) (n : ℕ) : Type 0 where
  pub stops : Stops rp
  pub placed : Placed l z.w z.h
  pub rows : Rows z n
