-- What is asked of a straight line, a strip and its buffer; and rows that are earlier rows moved sideways.
-- Assumes nothing.
use Rattle.std.specs.Prelude.{◌≡◌, List, ℕ, ◌+◌, ◌-◌, ◌*◌, ◌≤◌, ◌<◌, length}
use Rattle.line.specs.Box.{Box}
use Rattle.line.specs.Represented.{Bounded}
use Rattle.line.specs.declared.SignedVector.{SignedVector}
use Rattle.line.specs.declared.Line.TheVariants as L
use Rattle.picture.specs.Picture.{row, patched}
use Rattle.ramp.specs.Ramp.{Ramp}
use Rattle.rows.specs.Pixel.{Rows, ramp_pixel}
use Rattle.rows.specs.declared.Strip.{Strip}
use Rattle.straight.specs.declared.Shift.{Shift}

-- a vector, and a strip with n bytes for it
pub record Straight (v : SignedVector) (z : Strip) (n : ℕ) : Type 0 where
  pub bounded : Bounded v
  pub box : Box z.w z.h
  pub strip : Rows z n

-- a shift along v, going down its rows as far as across its columns, that copies some of n rows of w pixels
pub record Copies (v : SignedVector) (s : Shift) (w n : ℕ) : Type 0 where
  pub even : v.x * s.columns ≡ v.y * s.rows
  pub some : 0 < s.rows
  pub fewer : s.rows < n
  pub within : s.columns ≤ w

-- s stands in d from `at` on
abbrev pub Stands : List ℕ → ℕ → List ℕ → Type 0
Stands s at d = d ≡ patched d at s

-- row j is to be drawn at `at`, and the row that is the shift's rows above it stands at `from`
pub record Next (rp : List ℕ) (v : SignedVector) (s : Shift) (w h j from at : ℕ) (d : List ℕ) : Type 0 where
  pub ramp : Ramp rp
  pub box : Box w h
  pub even : v.x * s.columns ≡ v.y * s.rows
  pub narrow : s.columns ≤ w
  pub later : s.rows ≤ j
  pub within : j < h
  pub stands : Stands (row (ramp_pixel rp (L.Straight v) w h) w (j - s.rows)) from d
  pub apart : from + 4 * w ≤ at
  pub room : at + 4 * w ≤ length d

-- a vector, a strip with n bytes for it, and a shift that copies some of its rows
pub record Shifted (v : SignedVector) (s : Shift) (z : Strip) (n : ℕ) : Type 0 where
  pub straight : Straight v z n
  pub copies : Copies v s z.w (z.b - z.a)
