-- The gradient line of a linear gradient, in units of 1/64 px: its length, and the location of a pixel on it, in a box of w by h pixels.
-- Assumes nothing.
use Rattle.std.specs.Prelude.{ℕ, ◌+◌, ◌*◌, ℤ, pos, nat_abs, ◌+ℤ◌, ◌-ℤ◌, ◌*ℤ◌}
use Rattle.root.specs.Root.{root_of}
use Rattle.line.specs.Vector.{Vector}

-- how a gradient's locations are found: the location of pixel (i, j) is the greatest q with q² · scale ≤ square i j
pub record Rule : Type 0 where
  pub scale : ℕ
  pub square : ℕ → ℕ → ℕ

unfoldable pub location_by : Rule → ℕ → ℕ → ℕ
location_by rule i j = root_of rule.scale (rule.square i j)

abbrev pub squared : ℕ → ℕ
squared m = m * m

-- n = x² + y²
unfoldable pub norm : Vector → ℕ
norm v = squared (nat_abs v.x) + squared (nat_abs v.y)

-- W|x| + H|y|
abbrev pub reach : ℕ → ℕ → Vector → ℕ
reach w h v = w * nat_abs v.x + h * nat_abs v.y

-- "line length: the greatest q with q²·n ≤ (64·(W|x| + H|y|))²"
unfoldable pub line_length : ℕ → ℕ → Vector → ℕ
line_length w h v = root_of (norm v) (squared (64 * reach w h v))

-- "M = (2i+1−W)x + (2j+1−H)y + W|x| + H|y|"
unfoldable pub along : ℕ → ℕ → Vector → ℕ → ℕ → ℤ
along w h v i j =
    (pos (2 * i + 1) -ℤ pos w) *ℤ v.x +ℤ (pos (2 * j + 1) -ℤ pos h) *ℤ v.y
    +ℤ pos w *ℤ pos (nat_abs v.x) +ℤ pos h *ℤ pos (nat_abs v.y)

-- "location of pixel (i,j), counted from the top left: .. the greatest q with q²·n ≤ (32·M)²"
abbrev pub line_rule : ℕ → ℕ → Vector → Rule
line_rule w h v = record { scale = norm v; square = λ i j. squared (nat_abs (pos 32 *ℤ along w h v i j)) }
