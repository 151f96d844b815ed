-- Something of each channel, and a walk for each.
-- Assumes nothing.
use Rattle.std.specs.Prelude.{◌≡◌, ℕ, ◌+◌, ◌/◌, ◌≤◌, List}
use Rattle.numbers.specs.Fraction.{nearest}
use Rattle.color.specs.Stop.{Channel, red, green, blue, alpha}
use Rattle.color.specs.Byte.{rgba}
use Rattle.color.specs.Lent.{values_at, mix, scale}
use Rattle.color.specs.declared.Rgba.{Rgba}
use Rattle.walk.specs.Walk.{most_steps, Walks}
use Rattle.walk.specs.declared.Walk.{Walk}
use Rattle.walk.specs.declared.Channels.{Channels}

abbrev pub channel_of : {A : Type 0} → Channels A → Channel → A
channel_of w red = w.red
channel_of w green = w.green
channel_of w blue = w.blue
channel_of w alpha = w.alpha

-- walks in steps of s units that are x units from stop i, in a gap of g units, and right for `left` more steps
abbrev pub Going : List ℕ → ℕ → ℕ → ℕ → ℕ → ℕ → Channels Walk → Type 0
Going vs i g s x left w = (c : Channel) → Walks (values_at vs i c) (values_at vs (i + 1) c) g s x left (channel_of w c)

-- walks that stay at the color of stop i: from it to a stop of the same color
abbrev pub Staying : List ℕ → ℕ → Channels Walk → Type 0
Staying vs i w = (c : Channel) → Walks (values_at vs i c) (values_at vs i c) most_steps 1 0 most_steps (channel_of w c)

-- the walks are at the same bytes
abbrev pub Alike : Channels Walk → Channels Walk → Type 0
Alike w v = (c : Channel) → (channel_of w c).f / scale ≡ (channel_of v c).f / scale

-- the color at x units from stop i and y from the next
abbrev pub mix_of : List ℕ → ℕ → ℕ → ℕ → Rgba
mix_of vs i x y = rgba (λ c. nearest (mix (values_at vs i c) (values_at vs (i + 1) c) x y))

-- paces with which guesses fit
abbrev pub most_pace : ℕ
most_pace = 4294967296

pub record Paced (p : Channels ℕ) : Type 0 where
  pub red : p.red ≤ most_pace
  pub green : p.green ≤ most_pace
  pub blue : p.blue ≤ most_pace
  pub alpha : p.alpha ≤ most_pace
