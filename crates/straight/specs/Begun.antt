-- Rows of a picture that are drawn up to a column.
-- Assumes nothing.
use Rattle.std.specs.Prelude.{◌≡◌, cond, List, [], ◌∷◌, ℕ, ◌+◌, ◌-◌, ◌*◌, ltb, length, get_or}
use Rattle.picture.specs.Picture.{strip, patched}

-- the four bytes from o on
abbrev pub four_at : List ℕ → ℕ → List ℕ
four_at d o = get_or d o 0 ∷ get_or d (o + 1) 0 ∷ get_or d (o + 2) 0 ∷ get_or d (o + 3) 0 ∷ []

-- what stands for pixel (k, j) in a buffer whose rows, from row a on and w pixels wide, start at `at`
abbrev pub standing : List ℕ → ℕ → ℕ → ℕ → ℕ → ℕ → List ℕ
standing d at w a k j = four_at d (at + 4 * ((j - a) * w + k))

-- px in the first i columns, and f in the others
unfoldable pub up_to : (ℕ → ℕ → List ℕ) → ℕ → (ℕ → ℕ → List ℕ) → ℕ → ℕ → List ℕ
up_to px i f k j = cond (ltb k i) (px k j) (f k j)

-- the first i columns of rows a up to b are drawn from `at` on, the others hold f, and all else is as in d
abbrev pub Begun : (ℕ → ℕ → List ℕ) → ℕ → ℕ → ℕ → ℕ → (ℕ → ℕ → List ℕ) → List ℕ → ℕ → List ℕ → Type 0
Begun px w a b i f d at c = c ≡ patched d at (strip (up_to px i f) w a b)

-- from c to c', columns i up to m of rows a up to b are drawn, whatever the columns after them and all else hold
abbrev pub Continued : (ℕ → ℕ → List ℕ) → ℕ → ℕ → ℕ → ℕ → ℕ → ℕ → List ℕ → List ℕ → Type 0
Continued px w a b i m at c c' =
    (f : ℕ → ℕ → List ℕ) (d : List ℕ) → ((k j : ℕ) → length (f k j) ≡ 4) → length d ≡ length c → Begun px w a b i f d at c → Begun px w a b m f d at c'
