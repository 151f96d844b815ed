-- Layouts worked out by hand from docs/LAYOUT.md, and replies, by computation.
-- Assumes nothing.
use Rattle.std.specs.Prelude.{◌≡◌, refl, Bool, true, false, List, [], ◌∷◌, ◌++◌, ℕ, pos, negsuc, take, replicate, set}
use Rattle.gradient.specs.Blank.{blank_stop, is_blank}
use Rattle.gradient.specs.Range.{shape_in}
use Rattle.gradient.specs.Check.{blank_past, stops_in, check_of}
use Rattle.gradient.specs.declared.Position.{Position}
use Rattle.gradient.specs.declared.Position.TheVariants as P
use Rattle.gradient.specs.declared.Direction.TheVariants as D
use Rattle.gradient.specs.declared.Extent.TheVariants as E
use Rattle.gradient.specs.declared.Size.TheVariants as Z
use Rattle.gradient.specs.declared.Coordinate.TheVariants as C
use Rattle.gradient.specs.declared.Shape.{Shape}
use Rattle.gradient.specs.declared.Shape.TheVariants as Sh
use Rattle.gradient.specs.declared.Gradient.{Gradient}
use Rattle.words.specs.Word.{equal}
use Rattle.layout.specs.Words.{words_of, layout_of}
use Rattle.layout.specs.Taken.{shape_at, stop_at, gradient_at, taken_reply}

-- a zero word
abbrev zeros : List ℕ
zeros = 0 ∷ 0 ∷ 0 ∷ 0 ∷ []

-- red at a position, then half-transparent blue at −1.5 px
abbrev two : Shape → Bool → Position → Gradient
two s r p =
    record {
      shape = s;
      repeating = r;
      count = 2;
      stops =
          record { color = record { red = 255; green = 0; blue = 0; alpha = 255 }; position = p }
          ∷ record { color = record { red = 0; green = 0; blue = 255; alpha = 128 }; position = P.Length (negsuc 1499) }
          ∷ replicate 14 blank_stop;
    }

-- the place of the second stop, whose position is 4294965796 as a word
abbrev second : List ℕ
second = (0 ∷ 0 ∷ 255 ∷ 128 ∷ []) ++ (1 ∷ 0 ∷ 0 ∷ 0 ∷ []) ++ (36 ∷ 250 ∷ 255 ∷ 255 ∷ []) ++ zeros

-- linear-gradient(-45deg, #f00, #0000ff80 -1.5px)
abbrev linear : Gradient
linear = two (Sh.Linear (D.Angle (negsuc 44999))) false P.Auto

linear-bytes :
    take 96 (layout_of linear)
    ≡ (2 ∷ 0 ∷ 0 ∷ 0 ∷ []) ++ zeros ++ zeros ++ (8 ∷ 0 ∷ 0 ∷ 0 ∷ []) ++ (56 ∷ 80 ∷ 255 ∷ 255 ∷ []) ++ replicate 44 0
    ++ (255 ∷ 0 ∷ 0 ∷ 255 ∷ []) ++ zeros ++ zeros ++ zeros
    ++ second
unfolding layout_of words_of
linear-bytes = refl

-- repeating-linear-gradient(-45deg, #f00, #0000ff80 -1.5px)
repeating-bytes :
    take 20 (layout_of (two (Sh.Linear (D.Angle (negsuc 44999))) true P.Auto))
    ≡ (2 ∷ 0 ∷ 0 ∷ 0 ∷ []) ++ zeros ++ (1 ∷ 0 ∷ 0 ∷ 0 ∷ []) ++ (8 ∷ 0 ∷ 0 ∷ 0 ∷ []) ++ (56 ∷ 80 ∷ 255 ∷ 255 ∷ [])
unfolding layout_of words_of
repeating-bytes = refl

-- radial-gradient(circle closest-corner at 30% 10px, #f00 50%, #0000ff80 -1.5px), and the repeating one
abbrev circling : Bool → Gradient
circling r = two (Sh.Circle (Z.Extent E.ClosestCorner) (C.Percentage (pos 30000)) (C.Length (pos 10000))) r (P.Percentage (pos 50000))

abbrev circle : Gradient
circle = circling false

circle-bytes :
    take 96 (layout_of circle)
    ≡ (2 ∷ 0 ∷ 0 ∷ 0 ∷ []) ++ (1 ∷ 0 ∷ 0 ∷ 0 ∷ []) ++ zeros ++ zeros ++ zeros ++ (1 ∷ 0 ∷ 0 ∷ 0 ∷ []) ++ replicate 16 0
    ++ (2 ∷ 0 ∷ 0 ∷ 0 ∷ []) ++ (48 ∷ 117 ∷ 0 ∷ 0 ∷ []) ++ zeros
    ++ (1 ∷ 0 ∷ 0 ∷ 0 ∷ []) ++ (16 ∷ 39 ∷ 0 ∷ 0 ∷ []) ++ zeros
    ++ (255 ∷ 0 ∷ 0 ∷ 255 ∷ []) ++ (2 ∷ 0 ∷ 0 ∷ 0 ∷ []) ++ (80 ∷ 195 ∷ 0 ∷ 0 ∷ []) ++ zeros
    ++ second
unfolding layout_of words_of
circle-bytes = refl

-- with the byte 1 in word 2 it is the layout of the repeating one
repeating-byte : set (layout_of circle) 8 1 ≡ layout_of (circling true)
unfolding layout_of words_of
repeating-byte = refl

-- both are taken; not with 2 in word 2, with another byte of it set, with a reserved byte set, a byte more, or a unit that is none
replies :
    (taken_reply (layout_of circle) ≡ 0)
    × (taken_reply (set (layout_of circle) 8 1) ≡ 0)
    × (taken_reply (set (layout_of circle) 8 2) ≡ 4)
    × (taken_reply (set (set (layout_of circle) 8 1) 9 1) ≡ 4)
    × (taken_reply (set (layout_of circle) 32 1) ≡ 4)
    × (taken_reply (layout_of circle ++ (0 ∷ [])) ≡ 4)
    × (taken_reply (set (layout_of circle) 68 3) ≡ 4)
unfolding taken_reply gradient_at shape_at stop_at layout_of words_of equal check_of blank_past stops_in shape_in is_blank
replies = (refl, refl, refl, refl, refl, refl, refl)

-- a center far out of its range, and with a reserved byte set beside it
order :
    (taken_reply (set (layout_of circle) 59 64) ≡ 5)
    × (taken_reply (set (set (layout_of circle) 59 64) 32 1) ≡ 4)
unfolding taken_reply gradient_at shape_at stop_at layout_of words_of equal check_of blank_past stops_in shape_in is_blank
order = (refl, refl)
