-- Stop fixup, on a line of 12,800 units (200 px), worked out by computation.
-- Assumes nothing.
use Rattle.std.specs.Prelude.{◌≡◌, refl, List, [], ◌∷◌, map, ℤ, pos, negsuc}
use Rattle.numbers.specs.Floor.{floor_div}
use Rattle.numbers.specs.Units.{to_unit}
use Rattle.gradient.specs.declared.Position.{Position}
use Rattle.gradient.specs.declared.Position.TheVariants as P
use Rattle.placing.specs.Spot.{spot_of}
use Rattle.placing.specs.Fixup.{first_at, last_at, raised_from, next, run, spaced_from, fixup}

abbrev on200px : List Position → List ℤ
on200px l = fixup 12800 (map (spot_of 12800) l)

-- P4 to P8 of document 01: `red 40%, white, black, blue`; `red -50%, white, blue`; `red 20px, white 0px, blue 40px`;
-- `red, white -50%, black 150%, blue`; `red -50px, white, blue`
pub p4-p8 :
    (on200px (P.Percentage (pos 40000) ∷ P.Auto ∷ P.Auto ∷ P.Auto ∷ []) ≡ pos 5120 ∷ pos 7680 ∷ pos 10240 ∷ pos 12800 ∷ [])
    × (on200px (P.Percentage (negsuc 49999) ∷ P.Auto ∷ P.Auto ∷ []) ≡ negsuc 6399 ∷ pos 3200 ∷ pos 12800 ∷ [])
    × (on200px (P.Length (pos 20000) ∷ P.Length (pos 0) ∷ P.Length (pos 40000) ∷ []) ≡ pos 1280 ∷ pos 1280 ∷ pos 2560 ∷ [])
    × (on200px (P.Auto ∷ P.Percentage (negsuc 49999) ∷ P.Percentage (pos 150000) ∷ P.Auto ∷ []) ≡ pos 0 ∷ pos 0 ∷ pos 19200 ∷ pos 19200 ∷ [])
    × (on200px (P.Length (negsuc 49999) ∷ P.Auto ∷ P.Auto ∷ []) ≡ negsuc 3199 ∷ pos 4800 ∷ pos 12800 ∷ [])
unfolding to_unit floor_div first_at last_at raised_from next run spaced_from
p4-p8 = (refl, refl, refl, refl, refl)

-- Spacing goes to the nearest unit, halves toward plus infinity: a run over an odd distance, `red -0.016px, white, blue 0.032px`; one below 0,
-- `red -0.047px, white, blue 0px`; and thirds, `red, white, black, blue 1px`
runs :
    (on200px (P.Length (negsuc 15) ∷ P.Auto ∷ P.Length (pos 32) ∷ []) ≡ negsuc 0 ∷ pos 1 ∷ pos 2 ∷ [])
    × (on200px (P.Length (negsuc 46) ∷ P.Auto ∷ P.Length (pos 0) ∷ []) ≡ negsuc 2 ∷ negsuc 0 ∷ pos 0 ∷ [])
    × (on200px (P.Auto ∷ P.Auto ∷ P.Auto ∷ P.Length (pos 1000) ∷ []) ≡ pos 0 ∷ pos 21 ∷ pos 43 ∷ pos 64 ∷ [])
unfolding to_unit floor_div first_at last_at raised_from next run spaced_from
runs = (refl, refl, refl)
