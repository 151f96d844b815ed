-- Numbers in fixed point, with 25 binary digits after the point, and the steps along a vector.
-- Assumes nothing.
use Rattle.std.specs.Prelude.{◌≡◌, ℕ, ◌+◌, ◌-◌, ◌*◌, ◌/◌, ◌%◌, ◌<◌, ◌≤◌}
use Rattle.line.specs.Box.{Box}
use Rattle.line.specs.Location.{squared, norm}
use Rattle.line.specs.Represented.{odd_of, vector_in, Bounded}
use Rattle.line.specs.declared.SignedVector.{SignedVector}
use Rattle.fixed.specs.declared.Steps.{Steps}
use Rattle.fixed.specs.declared.RowLine.{RowLine}

-- one, in fixed point: 2^25
abbrev pub one : ℕ
one = 33554432

-- how far a place may be below the exact number: 4,095 half steps across and as many down, each too small by at most 1
abbrev pub most_error : ℕ
most_error = 8190

-- digits after the point that are below this are farther from the next whole number than that
abbrev pub deciding : ℕ
deciding = 33546240

-- a is t / √n in fixed point, or at most u less
pub record Approximates (u n t a : ℕ) : Type 0 where
  pub low : a * a * n ≤ squared (t * one)
  pub high : squared (t * one) ≤ (a + u) * (a + u) * n

-- s has the steps along v: 32·M grows by 32|x| for each half pixel across and by 32|y| for each half pixel down
pub record Steady (s : Steps) (v : SignedVector) : Type 0 where
  pub bounded : Bounded v
  pub across : Approximates 1 (norm (vector_in v)) (32 * v.x) s.across
  pub down : Approximates 1 (norm (vector_in v)) (32 * v.y) s.down

-- 32·M of pixel (i, j)
abbrev pub reach_of : SignedVector → ℕ → ℕ → ℕ → ℕ → ℕ
reach_of v w h i j = 32 * (odd_of v.left w i * v.x + odd_of v.up h j * v.y)

-- the place of pixel i of a row
abbrev pub place_at : RowLine → ℕ → ℕ
place_at r i = r.first + r.forth * i - r.back * i

-- .. which fits in 64 bits
pub record Reaches (r : RowLine) (i : ℕ) : Type 0 where
  pub sum : r.first + r.forth * i < 18446744073709551616
  pub room : r.back * i ≤ r.first + r.forth * i

-- adding s, modulo 2^64, takes the place of a pixel to that of the next, also where b is subtracted from both
abbrev pub Advances : RowLine → ℕ → Type 0
Advances r s = (i k b : ℕ) → Reaches r i → Reaches r (i + k) → b ≤ place_at r i → b ≤ place_at r (i + k)
    → (place_at r i - b + s * k) % 18446744073709551616 ≡ place_at r (i + k) - b

-- r has the places of row j's pixels along v
pub record AlongRow (r : RowLine) (v : SignedVector) (w h j : ℕ) : Type 0 where
  pub box : Box w h
  pub bounded : Bounded v
  pub row : j < h
  pub fits : (i : ℕ) → i < w → Reaches r i
  pub place : (i : ℕ) → i < w → Approximates most_error (norm (vector_in v)) (reach_of v w h i j) (place_at r i)

-- the digits after the point decide the whole part
abbrev pub Decided : ℕ → Type 0
Decided e = e % one < deciding

-- a table of `size` entries from `base` on has the whole part
pub record FloorInTable (base size e : ℕ) : Type 0 where
  pub low : base ≤ e / one
  pub high : e / one < base + size

-- both
pub record Certain (base size e : ℕ) : Type 0 where
  pub decided : Decided e
  pub inside : FloorInTable base size e
