-- Places whose whole parts are the locations of their pixels.
-- Assumes nothing.
use Rattle.std.specs.Prelude.{◌≡◌, ℕ, ◌+◌, ◌*◌, ◌/◌, ◌%◌, ◌<◌}
use Rattle.line.specs.Location.{location_by}
use Rattle.line.specs.Represented.{rule_in}
use Rattle.line.specs.declared.SignedVector.{SignedVector}
use Rattle.line.specs.declared.Line.TheVariants as L
use Rattle.fixed.specs.Steps.{Reaches, place_at, Certain}
use Rattle.fixed.specs.declared.RowLine.{RowLine}

-- the places of n pixels from pixel i on: their digits decide their whole parts, and a table of `size` entries from `base` on has these
pub record AllCertain (r : RowLine) (i n base size : ℕ) : Type 0 where
  pub fits : (k : ℕ) → k < n → Reaches r (i + k)
  pub certain : (k : ℕ) → k < n → Certain base size (place_at r (i + k))

-- e is the place of pixel i less `base`, and for each of n pixels from there on the whole part of its own, `step` after `step`, is its location less `base`
abbrev pub Located : ℕ → ℕ → ℕ → ℕ → ℕ → SignedVector → ℕ → ℕ → ℕ → Type 0
Located base i n e step v w h j = (m : ℕ) → m < n → base + (e + step * m) % 18446744073709551616 / 33554432 ≡ location_by (rule_in (L.Straight v) w h) (i + m) j
