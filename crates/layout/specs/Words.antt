-- The layout of a gradient: 80 words of 32 bits, as docs/LAYOUT.md has them, each as four bytes, the lowest first.
-- Assumes nothing.
use Rattle.std.specs.Prelude.{Bool, true, false, List, [], ◌∷◌, ◌++◌, ℕ, ◌+◌, ◌*◌, ℤ}
use Rattle.std.specs.Int.{w32}
use Rattle.std.proofs.Common.{of_z}
use Rattle.words.specs.Word.{word_bytes, each}
use Rattle.gradient.specs.declared.Color.{Color}
use Rattle.gradient.specs.declared.Position.{Position}
use Rattle.gradient.specs.declared.Position.TheVariants as P
use Rattle.gradient.specs.declared.Stop.{Stop}
use Rattle.gradient.specs.declared.Side.{Side}
use Rattle.gradient.specs.declared.Side.TheVariants as S
use Rattle.gradient.specs.declared.Vertical.{Vertical}
use Rattle.gradient.specs.declared.Vertical.TheVariants as Ver
use Rattle.gradient.specs.declared.Horizontal.{Horizontal}
use Rattle.gradient.specs.declared.Horizontal.TheVariants as Hor
use Rattle.gradient.specs.declared.Direction.{Direction}
use Rattle.gradient.specs.declared.Direction.TheVariants as D
use Rattle.gradient.specs.declared.Extent.{Extent}
use Rattle.gradient.specs.declared.Extent.TheVariants as E
use Rattle.gradient.specs.declared.Size.{Size}
use Rattle.gradient.specs.declared.Size.TheVariants as Z
use Rattle.gradient.specs.declared.Coordinate.{Coordinate}
use Rattle.gradient.specs.declared.Coordinate.TheVariants as C
use Rattle.gradient.specs.declared.Shape.{Shape}
use Rattle.gradient.specs.declared.Shape.TheVariants as Sh
use Rattle.gradient.specs.declared.Gradient.{Gradient}

-- a signed number as a word, in two's complement
abbrev pub signed_word : ℤ → ℕ
signed_word z = of_z w32 z

-- ---- a stop: its color, one byte to a channel, the unit of its position, its number, and a reserved word
abbrev pub color_word : Color → ℕ
color_word c = c.red + c.green * 256 + c.blue * 65536 + c.alpha * 16777216

abbrev pub position_unit : Position → ℕ
position_unit P.Auto = 0
position_unit (P.Length t) = 1
position_unit (P.Percentage t) = 2

abbrev pub position_word : Position → ℕ
position_word P.Auto = 0
position_word (P.Length t) = signed_word t
position_word (P.Percentage t) = signed_word t

abbrev pub stop_words : Stop → List ℕ
stop_words s = color_word s.color ∷ position_unit s.position ∷ position_word s.position ∷ 0 ∷ []

-- ---- whether it repeats
abbrev pub repeating_word : Bool → ℕ
repeating_word false = 0
repeating_word true = 1

-- ---- the direction of a line
abbrev pub side_code : Side → ℕ
side_code S.Top = 0
side_code S.Right = 1
side_code S.Bottom = 2
side_code S.Left = 3

abbrev pub corner_code : Vertical → Horizontal → ℕ
corner_code Ver.Top Hor.Left = 4
corner_code Ver.Top Hor.Right = 5
corner_code Ver.Bottom Hor.Left = 6
corner_code Ver.Bottom Hor.Right = 7

abbrev pub direction_code : Direction → ℕ
direction_code (D.Side s) = side_code s
direction_code (D.Corner v h) = corner_code v h
direction_code (D.Angle a) = 8

abbrev pub angle_word : Direction → ℕ
angle_word (D.Side s) = 0
angle_word (D.Corner v h) = 0
angle_word (D.Angle a) = signed_word a

-- ---- the size and the center of a circle
abbrev pub extent_code : Extent → ℕ
extent_code E.ClosestSide = 0
extent_code E.ClosestCorner = 1
extent_code E.FarthestSide = 2
extent_code E.FarthestCorner = 3

abbrev pub size_extent : Size → ℕ
size_extent (Z.Extent e) = extent_code e
size_extent (Z.Length t) = 0

abbrev pub size_unit : Size → ℕ
size_unit (Z.Extent e) = 0
size_unit (Z.Length t) = 1

abbrev pub size_word : Size → ℕ
size_word (Z.Extent e) = 0
size_word (Z.Length t) = signed_word t

abbrev pub coordinate_unit : Coordinate → ℕ
coordinate_unit (C.Length t) = 1
coordinate_unit (C.Percentage t) = 2

abbrev pub coordinate_word : Coordinate → ℕ
coordinate_word (C.Length t) = signed_word t
coordinate_word (C.Percentage t) = signed_word t

-- ---- the head: count, shape, whether it repeats, direction, angle, extent, size, second size (reserved), center x and y, each with its unit and a
-- reserved word
abbrev pub head_words : ℕ → Shape → Bool → List ℕ
head_words n (Sh.Linear d) r = n ∷ 0 ∷ repeating_word r ∷ direction_code d ∷ angle_word d ∷ 0 ∷ 0 ∷ 0 ∷ 0 ∷ 0 ∷ 0 ∷ 0 ∷ 0 ∷ 0 ∷ 0 ∷ 0 ∷ []
head_words n (Sh.Circle s x y) r =
    n ∷ 1 ∷ repeating_word r ∷ 0 ∷ 0 ∷ size_extent s ∷ size_unit s ∷ size_word s ∷ 0 ∷ 0 ∷ coordinate_unit x ∷ coordinate_word x ∷ 0 ∷ coordinate_unit y ∷ coordinate_word y ∷ 0 ∷ []

unfoldable pub words_of : Gradient → List ℕ
words_of g = head_words g.count g.shape g.repeating ++ each stop_words g.stops

unfoldable pub layout_of : Gradient → List ℕ
layout_of g = each word_bytes (words_of g)
