-- Replies worked out by computation.
-- Assumes nothing.
use Rattle.std.specs.Prelude.{◌≡◌, refl, Bool, false, List, [], ◌∷◌, ◌++◌, ℕ, ◌-◌, ℤ, pos, negsuc, length, replicate}
use Rattle.gradient.specs.Blank.{blank_stop, blank_gradient, is_blank}
use Rattle.gradient.specs.Range.{shape_in}
use Rattle.gradient.specs.Check.{blank_past, stops_in, check_of}
use Rattle.gradient.specs.declared.Position.{Position}
use Rattle.gradient.specs.declared.Position.TheVariants as P
use Rattle.gradient.specs.declared.Stop.{Stop}
use Rattle.gradient.specs.declared.Side.TheVariants as S
use Rattle.gradient.specs.declared.Direction.{Direction}
use Rattle.gradient.specs.declared.Direction.TheVariants as D
use Rattle.gradient.specs.declared.Size.TheVariants as Z
use Rattle.gradient.specs.declared.Coordinate.TheVariants as C
use Rattle.gradient.specs.declared.Shape.{Shape}
use Rattle.gradient.specs.declared.Shape.TheVariants as Sh
use Rattle.gradient.specs.declared.Gradient.{Gradient}

-- a red stop, without a position and at a length
abbrev red : Position → Stop
red p = record { color = record { red = 255; green = 0; blue = 0; alpha = 255 }; position = p }

abbrev auto : Stop
auto = red P.Auto

abbrev at : ℤ → Stop
at t = red (P.Length t)

-- a gradient of n stops, with the given first places and blank ones after them
abbrev shaped : Shape → ℕ → List Stop → Gradient
shaped s n first = record { shape = s; repeating = false; count = n; stops = first ++ replicate (16 - length first) blank_stop }

abbrev toward : Direction → ℕ → List Stop → Gradient
toward d = shaped (Sh.Linear d)

abbrev to_top : ℕ → List Stop → Gradient
to_top = toward (D.Side S.Top)

abbrev circle : ℤ → Gradient
circle r = shaped (Sh.Circle (Z.Length r) (C.Percentage (pos 50000)) (C.Percentage (pos 50000))) 2 (auto ∷ auto ∷ [])

-- two stops; no gradient; a place after the stops that is not blank, with a number out of its range
layouts :
    (check_of (to_top 2 (auto ∷ auto ∷ [])) ≡ 0)
    × (check_of blank_gradient ≡ 4)
    × (check_of (to_top 2 (auto ∷ at (pos 8192001) ∷ auto ∷ [])) ≡ 4)
unfolding check_of blank_past stops_in shape_in is_blank
layouts = (refl, refl, refl)

-- −8,192 px and 8,192 px; 8,192.001 px; 45.25 degrees; 45.1 degrees; a radius of 8,192 px; one of −0.001 px
ranges :
    (check_of (to_top 2 (at (negsuc 8191999) ∷ at (pos 8192000) ∷ [])) ≡ 0)
    × (check_of (to_top 2 (auto ∷ at (pos 8192001) ∷ [])) ≡ 5)
    × (check_of (toward (D.Angle (pos 45250)) 2 (auto ∷ auto ∷ [])) ≡ 0)
    × (check_of (toward (D.Angle (pos 45100)) 2 (auto ∷ auto ∷ [])) ≡ 5)
    × (check_of (circle (pos 8192000)) ≡ 0)
    × (check_of (circle (negsuc 0)) ≡ 5)
unfolding check_of blank_past stops_in shape_in is_blank
ranges = (refl, refl, refl, refl, refl, refl)

-- 17 stops: with every number in its range, and with one out of it
seventeen :
    (check_of (to_top 17 (replicate 16 auto)) ≡ 6)
    × (check_of (to_top 17 (replicate 15 auto ++ (at (pos 8192001) ∷ []))) ≡ 5)
unfolding check_of blank_past stops_in shape_in is_blank
seventeen = (refl, refl)

-- a gradient that repeats is judged like one that does not
repeating-alike : (b : Bool) (g : Gradient) → check_of (record { shape = g.shape; repeating = b; count = g.count; stops = g.stops }) ≡ check_of g
unfolding check_of blank_past stops_in
repeating-alike b g = refl
