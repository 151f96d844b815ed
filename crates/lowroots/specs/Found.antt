-- Roots found from a lower guess and the low 32 bits of a number.
-- Assumes nothing.
use Rattle.std.specs.Prelude.{◌≡◌, ℕ, ◌+◌, ◌*◌, ◌%◌, ◌<◌, ◌≤◌}
use Rattle.root.specs.Root.{root_of}
use Rattle.lowroots.specs.declared.Search.{Search}

-- what the guesses are below: every location is below 2^27, and those of small distances are below 2^22
abbrev pub root_limit : ℕ
root_limit = 134217728

abbrev pub short_limit : ℕ
short_limit = 4194304

-- r is the root of every number z with these low 32 bits whose root is one of the n numbers from g on, where g is below the limit
abbrev pub Finds : ℕ → ℕ → ℕ → ℕ → ℕ → Type 0
Finds n limit low g r = (z : ℕ) → z % 4294967296 ≡ low → g < limit → g * g ≤ z → z < (g + n) * (g + n) → r ≡ root_of 1 z

-- the root of z is one of the n numbers from the search's own on
pub record Sought (z n : ℕ) (s : Search) : Type 0 where
  pub over : s.over + s.from * s.from ≡ z
  pub below : z < (s.from + n) * (s.from + n)
  pub fits : s.over < 2147483648
