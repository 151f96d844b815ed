-- The sizes of strips and tables, and the table that a strip is drawn with.
-- Assumes nothing.
use Rattle.std.specs.Prelude.{◌≡◌, ℕ, ◌+◌, ◌≤◌, ◌<◌, ◌⊎◌}
use Rattle.ramp.specs.Ramp.{head_size}
use Rattle.strips.specs.declared.Plan.{Plan}
use Rattle.strips.specs.declared.SlantedPlan.{SlantedPlan}
use Rattle.strips.specs.declared.SlantedPlan.TheVariants as S

-- the most columns of a narrow strip
abbrev pub narrow : ℕ
narrow = 256

-- the most columns of any strip
abbrev pub wide : ℕ
wide = 2048

-- n is one of two widths, and no smaller one does for w columns
abbrev pub IsWidth : ℕ → ℕ → Type 0
IsWidth w n = (n ≡ narrow) ⊎ (n ≡ wide) × (narrow < w)

-- the most entries of a tiny, of a small, of a middle-sized and of any table
abbrev pub tiny_table : ℕ
tiny_table = 6144

abbrev pub small_table : ℕ
small_table = 16384

abbrev pub medium_table : ℕ
medium_table = 65536

abbrev pub most_entries : ℕ
most_entries = 185408

-- the last location that a table may start at
abbrev pub last_base : ℕ
last_base = 33000000

-- a plan for a table of at most n entries
pub record Planned (p : Plan) (n : ℕ) : Type 0 where
  pub base : p.base ≤ last_base
  pub entries : p.entries ≤ n

-- .. or for tables of sections, which are small
abbrev pub SlantedPlanned : SlantedPlan → Type 0
SlantedPlanned (S.Whole p) = Planned p most_entries
SlantedPlanned (S.Sections n) = n ≤ small_table

-- n words are one of five rooms, and no smaller one does for a table of m entries
abbrev pub IsSmallest : ℕ → ℕ → Type 0
IsSmallest m n =
    (n ≡ head_size)
    ⊎ (n ≡ head_size + tiny_table) × (0 < m)
    ⊎ (n ≡ head_size + small_table) × (tiny_table < m)
    ⊎ (n ≡ head_size + medium_table) × (small_table < m)
    ⊎ (n ≡ head_size + most_entries) × (medium_table < m)

-- n words have room for a ramp with the planned table
pub record HasRoom (p : Plan) (n : ℕ) : Type 0 where
  pub base : p.base ≤ last_base
  pub entries : head_size + p.entries ≤ n
  pub most : n ≤ head_size + most_entries
  pub smallest : IsSmallest p.entries n

-- n words are room for a ramp whose table starts at `base`
pub record Room (base n : ℕ) : Type 0 where
  pub near : base ≤ last_base
  pub head : head_size ≤ n
  pub most : n ≤ head_size + most_entries
