-- What a slice of bytes reads as, and the reply to it. A slice is read whatever stands in it, and is a layout only where it is the layout of the
-- gradient that it reads as. Document 01: "A chart .. handed in .. that breaks its layout in docs/ also gets 4, before its contents are judged."
-- Assumes nothing.
use Rattle.std.specs.Prelude.{cond, not, Result, Ok, Err, List, ℕ, ◌+◌, ◌*◌, ◌/◌, ◌%◌, eqb}
use Rattle.std.specs.Int.{w32}
use Rattle.std.proofs.Common.{to_z}
use Rattle.replies.specs.Replies.{done, malformed, given, ◌or_else◌}
use Rattle.replies.specs.Refused.{number}
use Rattle.replies.specs.declared.Refusal.{Refusal}
use Rattle.words.specs.Word.{word_at, up_to, equal}
use Rattle.gradient.specs.Blank.{blank_gradient}
use Rattle.gradient.specs.Check.{check_of}
use Rattle.gradient.specs.declared.Color.{Color}
use Rattle.gradient.specs.declared.Position.{Position}
use Rattle.gradient.specs.declared.Position.TheVariants as P
use Rattle.gradient.specs.declared.Stop.{Stop}
use Rattle.gradient.specs.declared.Side.TheVariants as S
use Rattle.gradient.specs.declared.Vertical.TheVariants as Ver
use Rattle.gradient.specs.declared.Horizontal.TheVariants as Hor
use Rattle.gradient.specs.declared.Direction.{Direction}
use Rattle.gradient.specs.declared.Direction.TheVariants as D
use Rattle.gradient.specs.declared.Extent.{Extent}
use Rattle.gradient.specs.declared.Extent.TheVariants as E
use Rattle.gradient.specs.declared.Size.{Size}
use Rattle.gradient.specs.declared.Size.TheVariants as Z
use Rattle.gradient.specs.declared.Coordinate.{Coordinate}
use Rattle.gradient.specs.declared.Coordinate.TheVariants as C
use Rattle.gradient.specs.declared.Shape.{Shape}
use Rattle.gradient.specs.declared.Shape.TheVariants as Sh
use Rattle.gradient.specs.declared.Gradient.{Gradient}
use Rattle.layout.specs.Words.{layout_of}

-- ---- a stop, of the words of its color, its unit and its position; another unit reads as none
abbrev pub color_of : ℕ → Color
color_of w = record { red = w % 256; green = w / 256 % 256; blue = w / 65536 % 256; alpha = w / 16777216 }

abbrev pub position_at : ℕ → ℕ → Position
position_at u n = cond (eqb u 1) (P.Length (to_z w32 n)) (cond (eqb u 2) (P.Percentage (to_z w32 n)) P.Auto)

abbrev pub stop_of : ℕ → ℕ → ℕ → Stop
stop_of w u n = record { color = color_of w; position = position_at u n }

-- ---- a direction, of its code and its angle; another code reads as an angle
abbrev pub direction_of : ℕ → ℕ → Direction
direction_of c a =
    cond (eqb c 0) (D.Side S.Top)
    (cond (eqb c 1) (D.Side S.Right)
    (cond (eqb c 2) (D.Side S.Bottom)
    (cond (eqb c 3) (D.Side S.Left)
    (cond (eqb c 4) (D.Corner Ver.Top Hor.Left)
    (cond (eqb c 5) (D.Corner Ver.Top Hor.Right)
    (cond (eqb c 6) (D.Corner Ver.Bottom Hor.Left)
    (cond (eqb c 7) (D.Corner Ver.Bottom Hor.Right) (D.Angle (to_z w32 a)))))))))

-- ---- the size and the center of a circle; another extent reads as farthest-corner, another unit as 0 for a size and 1 for a coordinate
abbrev pub extent_of : ℕ → Extent
extent_of c = cond (eqb c 0) E.ClosestSide (cond (eqb c 1) E.ClosestCorner (cond (eqb c 2) E.FarthestSide E.FarthestCorner))

abbrev pub size_of : ℕ → ℕ → ℕ → Size
size_of c u n = cond (eqb u 1) (Z.Length (to_z w32 n)) (Z.Extent (extent_of c))

abbrev pub coordinate_of : ℕ → ℕ → Coordinate
coordinate_of u n = cond (eqb u 2) (C.Percentage (to_z w32 n)) (C.Length (to_z w32 n))

-- ---- the shape, where w k is word k of the head; another code reads as linear
abbrev pub circle_of : (ℕ → ℕ) → Shape
circle_of w = Sh.Circle (size_of (w 5) (w 6) (w 7)) (coordinate_of (w 10) (w 11)) (coordinate_of (w 13) (w 14))

abbrev pub shape_of : (ℕ → ℕ) → Shape
shape_of w = cond (eqb (w 1) 1) (circle_of w) (Sh.Linear (direction_of (w 3) (w 4)))

-- ---- the whole, of the bytes of a slice; what is past its end reads as 0
unfoldable pub shape_at : List ℕ → Shape
shape_at s = shape_of (λ (k : ℕ). word_at s (4 * k))

-- place i
unfoldable pub stop_at : List ℕ → ℕ → Stop
stop_at s i = stop_of (word_at s (64 + 16 * i)) (word_at s (68 + 16 * i)) (word_at s (72 + 16 * i))

-- it repeats where word 2 is 1; another word reads as one that does not
unfoldable pub gradient_at : List ℕ → Gradient
gradient_at s = record { shape = shape_at s; repeating = eqb (word_at s 8) 1; count = word_at s 0; stops = up_to 16 (stop_at s) }

-- ---- the reply to a slice, and the gradient that it holds; the blank one after a refusal
pub record Taken : Type 0 where
  pub reply : ℕ
  pub gradient : Gradient

-- what the code answers, as that
abbrev pub taken : Result Gradient Refusal → Taken
taken (Ok g) = record { reply = done; gradient = g }
taken (Err r) = record { reply = number r; gradient = blank_gradient }

-- ---- the reply: 4 where it is not a layout, then the gradient's own
unfoldable pub taken_reply : List ℕ → ℕ
taken_reply s = given (not (equal s (layout_of (gradient_at s)))) malformed or_else check_of (gradient_at s)

-- the gradient where the reply is 0, else the blank one
unfoldable pub taken_of : List ℕ → Taken
taken_of s = record { reply = taken_reply s; gradient = cond (eqb (taken_reply s) 0) (gradient_at s) blank_gradient }
