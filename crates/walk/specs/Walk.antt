-- Walks: a channel between two stops, in fixed point, and how far a walk may be from the exact number.
-- Assumes nothing.
use Rattle.std.specs.Prelude.{◌≡◌, ℕ, ◌+◌, ◌-◌, ◌*◌, ◌^◌, ◌<◌, ◌≤◌}
use Rattle.color.specs.Lent.{scale}
use Rattle.walk.specs.declared.Walk.{Walk}

-- how many steps a walk is right for: 2^18
abbrev pub most_steps : ℕ
most_steps = 262144

-- the longest gap in which one over 510 g is exact enough to be multiplied with: 2^14 units
abbrev pub short_gap : ℕ
short_gap = 16384

-- two stops g units apart, steps of s units, and a location x units from the first stop
pub record Gap (g s x : ℕ) : Type 0 where
  pub some : 0 < g
  pub small : g < 2 ^ 24
  pub stride : s ≤ g
  pub within : x ≤ g

-- the same, with a channel's values P and Q at the two stops
pub record InGap (p q g s x : ℕ) : Type 0 where
  pub first : p ≤ 65025
  pub second : q ≤ 65025
  pub gap : Gap g s x

-- the byte of the mix at x is this number over 510 g, rounded down
abbrev pub numerator_at : ℕ → ℕ → ℕ → ℕ → ℕ
numerator_at p q g x = 2 * (p * (g - x) + q * x) + 255 * g

-- a walk in steps of s units that is at x and right for `left` more steps: f is above the exact number by `left` or more, and below that of the next
-- numerator by as much; up and down are what a step adds and takes away, rounded down. The walk's unit is `one`, which is `lack` short of the scale; f
-- makes up for that, as no numerator is above 130,305 g
pub record Walks (p q g s x left : ℕ) (w : Walk) : Type 0 where
  pub inside : InGap p q g s x
  pub one : ℕ
  pub lack : ℕ
  pub whole : one + lack ≡ scale
  pub low : numerator_at p q g x * one + 130305 * g * lack + left * (510 * g) ≤ 510 * g * w.f
  pub high : 510 * g * w.f + left * (510 * g) ≤ numerator_at p q g x * one + scale
  pub up-low : 510 * g * w.up ≤ 2 * q * s * one
  pub up-high : 2 * q * s * one ≤ 510 * g * w.up + 510 * g
  pub down-low : 510 * g * w.down ≤ 2 * p * s * one
  pub down-high : 2 * p * s * one ≤ 510 * g * w.down + 510 * g

-- v is w, n steps on
pub record Further (n : ℕ) (w v : Walk) : Type 0 where
  pub f : v.f + n * w.down ≡ w.f + n * w.up
  pub up : v.up ≡ w.up
  pub down : v.down ≡ w.down

-- n steps at once fit in 64 bits
pub record Fits (n : ℕ) (w : Walk) : Type 0 where
  pub here : w.f < 2 ^ 62
  pub up : n * w.up < 2 ^ 62
  pub down : n * w.down < 2 ^ 62
  pub room : n * w.down ≤ w.f + n * w.up
