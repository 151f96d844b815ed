-- How the code represents vectors, centers and lines, and what each stands for.
-- Assumes nothing.
use Rattle.std.specs.Prelude.{◌≡◌, Bool, true, false, ℕ, ◌+◌, ◌*◌, ◌-◌, ◌≤◌, ◌<◌, min, max, ℤ, pos, neg_ℤ}
use Rattle.numbers.specs.Biased.{twice_bias, unbiased}
use Rattle.gradient.specs.declared.Vertical.{Vertical}
use Rattle.gradient.specs.declared.Vertical.TheVariants as Ver
use Rattle.gradient.specs.declared.Horizontal.{Horizontal}
use Rattle.gradient.specs.declared.Horizontal.TheVariants as Hor
use Rattle.line.specs.declared.SignedVector.{SignedVector}
use Rattle.line.specs.declared.BiasedCenter.{BiasedCenter}
use Rattle.line.specs.declared.Line.{Line}
use Rattle.line.specs.declared.Line.TheVariants as L
use Rattle.line.specs.declared.Choice.{Choice}
use Rattle.line.specs.declared.Choice.TheVariants as Ch
use Rattle.line.specs.Vector.{Vector, vector}
use Rattle.line.specs.Location.{Rule, line_rule}
use Rattle.line.specs.Circle.{Center, circle_rule}

-- a size with its sign: minus n where the flag is set
abbrev pub signed : Bool → ℕ → ℤ
signed true n = neg_ℤ (pos n)
signed false n = pos n

abbrev pub is_left : Horizontal → Bool
is_left Hor.Left = true
is_left Hor.Right = false

abbrev pub is_top : Vertical → Bool
is_top Ver.Top = true
is_top Ver.Bottom = false

abbrev pub vector_in : SignedVector → Vector
vector_in v = vector (signed v.left v.x) (signed v.up v.y)

-- what every direction's vector has: it is not 0, and so small that (32·M)² fits 64 bits in every box
pub record Bounded (v : SignedVector) : Type 0 where
  pub some : 0 < v.x + v.y
  pub sum : v.x + v.y ≤ 32767

-- r stands for the vector v
pub record IsVector (r : SignedVector) (v : Vector) : Type 0 where
  pub is : vector_in r ≡ v
  pub bounded : Bounded r

-- twice the distance of the middle of pixel i, of w in a row, from the side that the direction starts at: the last one where it goes back
abbrev pub odd_of : Bool → ℕ → ℕ → ℕ
odd_of true w i = 2 * (w - 1 - i) + 1
odd_of false w i = 2 * i + 1

abbrev pub center_in : BiasedCenter → Center
center_in c = record { x = unbiased c.x; y = unbiased c.y }

-- what every center has: its squared distances fit 64 bits
pub record Near (c : BiasedCenter) : Type 0 where
  pub x : c.x < twice_bias
  pub y : c.y < twice_bias

pub record IsCenter (r : BiasedCenter) (c : Center) : Type 0 where
  pub is : center_in r ≡ c
  pub near : Near r

-- the lesser or the greater of two
abbrev pub chosen : Choice → ℕ → ℕ → ℕ
chosen Ch.Closest = min
chosen Ch.Farthest = max

-- the rule of locations that a line stands for
abbrev pub rule_in : Line → ℕ → ℕ → Rule
rule_in (L.Straight v) w h = line_rule w h (vector_in v)
rule_in (L.Circle c) w h = circle_rule (center_in c)

abbrev pub Sound : Line → Type 0
Sound (L.Straight v) = Bounded v
Sound (L.Circle c) = Near c

pub record IsLine (r : Line) (w h : ℕ) (rule : Rule) : Type 0 where
  pub is : rule_in r w h ≡ rule
  pub sound : Sound r
