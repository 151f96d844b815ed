-- The channels of a color are bytes, as their type says.
-- Assumes nothing.
use Rattle.std.specs.Prelude.{List, ℕ, ◌≤◌, get_or}
use Rattle.gradient.specs.declared.Color.{Color}
use Rattle.gradient.specs.declared.Stop.{Stop}
use Rattle.gradient.specs.Blank.{blank_stop}

pub record ColorBytes (c : Color) : Type 0 where
  pub red : c.red ≤ 255
  pub green : c.green ≤ 255
  pub blue : c.blue ≤ 255
  pub alpha : c.alpha ≤ 255

-- of every stop
abbrev pub StopBytes : List Stop → Type 0
StopBytes l = (i : ℕ) → ColorBytes (get_or l i blank_stop).color
