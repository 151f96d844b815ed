-- Placed stops as two lent slices of numbers: for each stop its position, biased, and four numbers for its premultiplied channels.
-- Assumes nothing.
use Rattle.std.specs.Prelude.{cond, List, [], ◌∷◌, ℕ, zero, suc, ◌+◌, ◌-◌, ◌*◌, ◌%◌, ◌≤◌, ◌<◌, leb, length, get_or}
use Rattle.numbers.specs.Biased.{unbiased}
use Rattle.numbers.specs.Fraction.{Fraction, ◌⁄◌}
use Rattle.color.specs.Stop.{Channel, Stop, last_place}
use Rattle.color.specs.Byte.{channels}
use Rattle.color.specs.declared.Rgba.{Rgba}

-- the channels of stop i: four numbers from 4 * i on
abbrev pub values_at : List ℕ → ℕ → Channel → ℕ
values_at vs i = channels (get_or vs (4 * i) 0) (get_or vs (4 * i + 1) 0) (get_or vs (4 * i + 2) 0) (get_or vs (4 * i + 3) 0)

-- the stops, the first of them with number i
unfoldable pub stops_from : ℕ → List ℕ → List ℕ → List Stop
stops_from i [] vs = []
stops_from i (p ∷ ps) vs = record { value = values_at vs i; position = unbiased p } ∷ stops_from (suc i) ps vs

abbrev pub stops_of : List ℕ → List ℕ → List Stop
stops_of ps vs = stops_from 0 ps vs

-- no number is above 255 · 255
abbrev pub Small : List ℕ → Type 0
Small vs = (i : ℕ) → get_or vs i 0 ≤ 65025

-- no position is below the one before it
abbrev pub Rising : List ℕ → Type 0
Rising ps = (i : ℕ) → i + 1 < length ps → get_or ps i 0 ≤ get_or ps (i + 1) 0

-- what the code asks of the slices: at least one stop, four numbers for each, and positions that never fall
pub record Lent (ps vs : List ℕ) : Type 0 where
  pub some : 0 < length ps
  pub four : 4 * length ps ≤ length vs
  pub small : Small vs
  pub rising : Rising ps

-- the place of the last position at or below `at`, all of them biased
abbrev pub last_up_to : List ℕ → ℕ → ℕ
last_up_to ps at = last_place (λ (p : ℕ). leb p at) ps

-- stop i is at or below `at`, and the next one is above it
pub record Between (ps vs : List ℕ) (i at : ℕ) : Type 0 where
  pub next : i + 1 < length ps
  pub below : get_or ps i 0 ≤ at
  pub above : at < get_or ps (i + 1) 0
  pub lent : Lent ps vs

-- a biased location, moved by whole periods until it lies from `first` up to but not including `last`
abbrev pub moved_biased : ℕ → ℕ → ℕ → ℕ
moved_biased first last at = cond (leb first at) (first + (at - first) % (last - first)) (last - 1 - (first - 1 - at) % (last - first))

-- the sum of number c of two neighbors, over n pairs of neighbors from stop i on
unfoldable pub pairs_sum : List ℕ → ℕ → ℕ → ℕ → ℕ
pairs_sum vs c i zero = 0
pairs_sum vs c i (suc n) = get_or vs (4 * i + c) 0 + get_or vs (4 * (i + 1) + c) 0 + pairs_sum vs c (i + 1) n

-- the values of a stop that has these bytes
abbrev pub values_for : Rgba → List ℕ
values_for p = 255 * p.red ∷ 255 * p.green ∷ 255 * p.blue ∷ 255 * p.alpha ∷ []

-- the mix of P and Q at x units from the one and y from the other
abbrev pub mix : ℕ → ℕ → ℕ → ℕ → Fraction
mix p q x y = (p * y + q * x) ⁄ (255 * (x + y))

-- 2 ^ 54: one, in fixed point
abbrev pub scale : ℕ
scale = 18014398509481984

-- r is 2^54 / d or less
abbrev pub Inverse : ℕ → ℕ → Type 0
Inverse d r = r * d ≤ scale
