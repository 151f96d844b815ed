-- The direction of a linear gradient as a whole-number vector, x to the right and y downward.
-- Assumes nothing.
use Rattle.std.specs.Prelude.{ℕ, zero, suc, ◌+◌, ◌-◌, ◌/◌, ◌%◌, ℤ, pos, neg_ℤ}
use Rattle.numbers.specs.Floor.{remainder}
use Rattle.sine.specs.Sines.{sine_of}
use Rattle.gradient.specs.declared.Side.{Side}
use Rattle.gradient.specs.declared.Side.TheVariants as S
use Rattle.gradient.specs.declared.Vertical.{Vertical}
use Rattle.gradient.specs.declared.Vertical.TheVariants as Ver
use Rattle.gradient.specs.declared.Horizontal.{Horizontal}
use Rattle.gradient.specs.declared.Horizontal.TheVariants as Hor
use Rattle.gradient.specs.declared.Direction.{Direction}
use Rattle.gradient.specs.declared.Direction.TheVariants as D

pub record Vector : Type 0 where
  pub x : ℤ
  pub y : ℤ

abbrev pub vector : ℤ → ℤ → Vector
vector x y = record { x = x; y = y }

-- "(0,−1) to top, (1,0) to right, (0,1) to bottom, (−1,0) to left"
abbrev pub side_vector : Side → Vector
side_vector S.Top = vector (pos 0) (neg_ℤ (pos 1))
side_vector S.Right = vector (pos 1) (pos 0)
side_vector S.Bottom = vector (pos 0) (pos 1)
side_vector S.Left = vector (neg_ℤ (pos 1)) (pos 0)

-- "For a corner, x is ±H and y is ±W with the corner's signs"
abbrev pub across : Horizontal → ℕ → ℤ
across Hor.Left n = neg_ℤ (pos n)
across Hor.Right n = pos n

abbrev pub down : Vertical → ℕ → ℤ
down Ver.Top n = neg_ℤ (pos n)
down Ver.Bottom n = pos n

-- the sine of r quarter degrees into quadrant k, scaled by 16,384: the table there and back, then both below 0
abbrev pub in_quadrant : ℕ → ℕ → ℤ
in_quadrant zero r = pos (sine_of r)
in_quadrant (suc zero) r = pos (sine_of (360 - r))
in_quadrant (suc (suc zero)) r = neg_ℤ (pos (sine_of r))
in_quadrant (suc (suc (suc k))) r = neg_ℤ (pos (sine_of (360 - r)))

-- the sine of q quarter degrees
unfoldable pub sine_z : ℕ → ℤ
sine_z q = in_quadrant (q / 360 % 4) (q % 360)

-- the cosine is the sine a quarter of a turn on
abbrev pub cosine_z : ℕ → ℤ
cosine_z q = sine_z (q + 360)

-- what is left of an angle in thousandths of a degree after whole turns, in quarter degrees
unfoldable pub quarters : ℤ → ℕ
quarters a = remainder a 360000 / 250

-- "For an angle, 0deg points up and grows clockwise: (sine, −cosine)"
abbrev pub angle_vector : ℤ → Vector
angle_vector a = vector (sine_z (quarters a)) (neg_ℤ (cosine_z (quarters a)))

-- the vector of a direction in a box of w by h pixels
unfoldable pub vector_of : Direction → ℕ → ℕ → Vector
vector_of (D.Side s) w h = side_vector s
vector_of (D.Corner v a) w h = vector (across a h) (down v w)
vector_of (D.Angle a) w h = angle_vector a
