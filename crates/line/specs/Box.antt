-- The box that a gradient is drawn in, in pixels: document 01's width and height from 1 to 2,048.
-- Assumes nothing.
use Rattle.std.specs.Prelude.{ℕ, ◌≤◌}

pub record Box (w h : ℕ) : Type 0 where
  pub some-width : 1 ≤ w
  pub width : w ≤ 2048
  pub some-height : 1 ≤ h
  pub height : h ≤ 2048
