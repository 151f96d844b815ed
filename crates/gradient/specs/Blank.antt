-- What stands in an unused place, and in place of a gradient after a refusal.
-- Assumes nothing.
use Rattle.std.specs.Prelude.{Bool, true, false, ◌&&◌, eqb, replicate}
use Rattle.gradient.specs.declared.Color.{Color}
use Rattle.gradient.specs.declared.Position.{Position}
use Rattle.gradient.specs.declared.Position.TheVariants as P
use Rattle.gradient.specs.declared.Stop.{Stop}
use Rattle.gradient.specs.declared.Side.TheVariants as S
use Rattle.gradient.specs.declared.Direction.TheVariants as D
use Rattle.gradient.specs.declared.Shape.TheVariants as Sh
use Rattle.gradient.specs.declared.Gradient.{Gradient}

abbrev pub blank_color : Color
blank_color = record { red = 0; green = 0; blue = 0; alpha = 0 }

abbrev pub blank_stop : Stop
blank_stop = record { color = blank_color; position = P.Auto }

-- no gradient: it has no stops
abbrev pub blank_gradient : Gradient
blank_gradient = record { shape = Sh.Linear (D.Side S.Top); repeating = false; count = 0; stops = replicate 16 blank_stop }

-- whether a place is blank
abbrev pub is_auto : Position → Bool
is_auto P.Auto = true
is_auto (P.Length t) = false
is_auto (P.Percentage t) = false

abbrev pub is_clear : Color → Bool
is_clear c = eqb c.red 0 && (eqb c.green 0 && (eqb c.blue 0 && eqb c.alpha 0))

unfoldable pub is_blank : Stop → Bool
is_blank s = is_clear s.color && is_auto s.position
