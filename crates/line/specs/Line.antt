-- The gradient line of any gradient in a box of w by h pixels: its length, and the rule of its locations.
-- Assumes nothing.
use Rattle.std.specs.Prelude.{ℕ}
use Rattle.gradient.specs.declared.Shape.{Shape}
use Rattle.gradient.specs.declared.Shape.TheVariants as Sh
use Rattle.line.specs.Vector.{vector_of}
use Rattle.line.specs.Location.{Rule, line_length, line_rule}
use Rattle.line.specs.Circle.{center_of, radius_of, circle_rule}

unfoldable pub length_of : Shape → ℕ → ℕ → ℕ
length_of (Sh.Linear d) w h = line_length w h (vector_of d w h)
length_of (Sh.Circle s x y) w h = radius_of s w h (center_of x y w h)

unfoldable pub rule_of : Shape → ℕ → ℕ → Rule
rule_of (Sh.Linear d) w h = line_rule w h (vector_of d w h)
rule_of (Sh.Circle s x y) w h = circle_rule (center_of x y w h)
