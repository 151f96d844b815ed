-- Document 01: "A colour: `#` with 3, 4, 6 or 8 hex digits (short digits doubled, alpha 255 if absent), `transparent` (all four 0), or one of the
-- names" of the table below.
-- Assumes nothing.
use Rattle.std.specs.Prelude.{ℕ, ◌+◌, ◌*◌, ◌<◌, List, [], ◌∷◌}
use Prim.Native.Char.{code}
use Prim.Native.String.{String}
use Rattle.gradient.specs.declared.Color.{Color}
use Rattle.grammar.specs.Words.{Letter, Word, OneOf}

-- red, green and blue, with an alpha, and with alpha 255
abbrev pub rgba : ℕ → ℕ → ℕ → ℕ → Color
rgba r g b a = record { red = r; green = g; blue = b; alpha = a }

abbrev pub rgb : ℕ → ℕ → ℕ → Color
rgb r g b = rgba r g b 255

-- "one of the names aqua 00ffff, black 000000, [..] yellow ffff00", in that order
pub data Name : String → Color → Type 0 where
  aqua : Name "aqua" (rgb 0x00 0xff 0xff)
  black : Name "black" (rgb 0x00 0x00 0x00)
  blue : Name "blue" (rgb 0x00 0x00 0xff)
  fuchsia : Name "fuchsia" (rgb 0xff 0x00 0xff)
  gray : Name "gray" (rgb 0x80 0x80 0x80)
  green : Name "green" (rgb 0x00 0x80 0x00)
  lime : Name "lime" (rgb 0x00 0xff 0x00)
  maroon : Name "maroon" (rgb 0x80 0x00 0x00)
  navy : Name "navy" (rgb 0x00 0x00 0x80)
  olive : Name "olive" (rgb 0x80 0x80 0x00)
  purple : Name "purple" (rgb 0x80 0x00 0x80)
  red : Name "red" (rgb 0xff 0x00 0x00)
  silver : Name "silver" (rgb 0xc0 0xc0 0xc0)
  teal : Name "teal" (rgb 0x00 0x80 0x80)
  white : Name "white" (rgb 0xff 0xff 0xff)
  yellow : Name "yellow" (rgb 0xff 0xff 0x00)

-- a hex digit and its value
pub data Hex : ℕ → ℕ → Type 0 where
  digit : (i : ℕ) → i < 10 → Hex (code "0" + i) i
  letter : {b : ℕ} (i : ℕ) → i < 6 → Letter b (code "a" + i) → Hex b (10 + i)

-- two hex digits as one channel
abbrev pub pair : ℕ → ℕ → ℕ
pair x y = 16 * x + y

pub data ColorText : List ℕ → Color → Type 0 where
  -- "`#` with 3 [..] hex digits (short digits doubled, alpha 255 if absent)"
  three : {r g b x y z : ℕ} → Hex r x → Hex g y → Hex b z → ColorText (code "#" ∷ r ∷ g ∷ b ∷ []) (rgb (pair x x) (pair y y) (pair z z))
  -- "4"
  four : {r g b a x y z t : ℕ} → Hex r x → Hex g y → Hex b z → Hex a t
      → ColorText (code "#" ∷ r ∷ g ∷ b ∷ a ∷ []) (rgba (pair x x) (pair y y) (pair z z) (pair t t))
  -- "6"
  six : {r r' g g' b b' x x' y y' z z' : ℕ} → Hex r x → Hex r' x' → Hex g y → Hex g' y' → Hex b z → Hex b' z'
      → ColorText (code "#" ∷ r ∷ r' ∷ g ∷ g' ∷ b ∷ b' ∷ []) (rgb (pair x x') (pair y y') (pair z z'))
  -- "or 8"
  eight : {r r' g g' b b' a a' x x' y y' z z' t t' : ℕ} → Hex r x → Hex r' x' → Hex g y → Hex g' y' → Hex b z → Hex b' z' → Hex a t → Hex a' t'
      → ColorText (code "#" ∷ r ∷ r' ∷ g ∷ g' ∷ b ∷ b' ∷ a ∷ a' ∷ []) (rgba (pair x x') (pair y y') (pair z z') (pair t t'))
  -- "`transparent` (all four 0)"
  transparent : {l : List ℕ} → Word "transparent" l → ColorText l (rgba 0 0 0 0)
  -- "or one of the names"
  named : {l : List ℕ} {v : Color} → OneOf Name l v → ColorText l v
