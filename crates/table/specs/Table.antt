-- Tables of colors by location, each color packed into a word.
-- Assumes nothing.
use Rattle.std.specs.Prelude.{◌≡◌, List, ℕ, ◌+◌, ◌-◌, ◌*◌, ◌≤◌, ◌<◌, length, get_or}
use Rattle.numbers.specs.Biased.{twice_bias, unbiased}
use Rattle.color.specs.Stop.{Channel}
use Rattle.color.specs.Byte.{color_at}
use Rattle.color.specs.Lent.{stops_of}
use Rattle.color.specs.declared.Rgba.{Rgba}
use Rattle.walk.specs.Walk.{most_steps, Fits}
use Rattle.walk.specs.Channels.{channel_of, Going, mix_of}
use Rattle.walk.specs.declared.Walk.{Walk}
use Rattle.walk.specs.declared.Channels.{Channels}
use Rattle.table.specs.declared.Stretch.{Stretch}

-- 2^27: no table reaches beyond this biased location
abbrev pub farthest : ℕ
farthest = 134217728

-- a color as a word: its lowest byte is red
abbrev pub packed : Rgba → ℕ
packed p = p.red + 256 * p.green + 65536 * p.blue + 16777216 * p.alpha

-- the color of lent stops at a biased location
unfoldable pub entry_of : List ℕ → List ℕ → ℕ → ℕ
entry_of ps vs at = packed (color_at (stops_of ps vs) (unbiased at))

-- the color of entry k, in a table that starts at the biased location `first` and has an entry every s units
abbrev pub entry_at : List ℕ → List ℕ → ℕ → ℕ → ℕ → ℕ
entry_at ps vs first s k = entry_of ps vs (first + k * s)

-- every entry is the color at its location
abbrev pub Spaced : List ℕ → List ℕ → ℕ → ℕ → List ℕ → Type 0
Spaced ps vs first s t = (k : ℕ) → k < length t → get_or t k 0 ≡ entry_at ps vs first s k

-- the color of entry k by a walk in steps of s units that is x units from stop i at entry a, in a gap of g units
unfoldable pub walked_at : List ℕ → ℕ → ℕ → ℕ → ℕ → ℕ → ℕ → ℕ
walked_at vs i g s x a k = packed (mix_of vs i (x + (k - a) * s) (g - (x + (k - a) * s)))

-- the walks at entry k, where they started at entry a
abbrev pub Reached : List ℕ → ℕ → ℕ → ℕ → ℕ → ℕ → ℕ → Channels Walk → Type 0
Reached vs i g s x a k w = Going vs i g s (x + (k - a) * s) (most_steps - (k - a)) w

-- the entries from a up to b are within the gap, and no more than a walk is right for
pub record Spans (g s x a b : ℕ) : Type 0 where
  pub few : b < a + most_steps
  pub within : x + (b - 1 - a) * s ≤ g

-- none of the first n positions lies between a and b
abbrev pub Clear : ℕ → List ℕ → ℕ → ℕ → Type 0
Clear n ps a b = (i : ℕ) → i < n → a < get_or ps i 0 → b ≤ get_or ps i 0

-- the positions before place k are at or below `at`, and the one there, if any, is above it
pub record Splits (ps : List ℕ) (at k : ℕ) : Type 0 where
  pub within : k ≤ length ps
  pub below : (i : ℕ) → i < k → get_or ps i 0 ≤ at
  pub above : k < length ps → at < get_or ps k 0

-- b is the position at place k, or `limit` where that is less or there is none
pub record Ends (ps : List ℕ) (k limit b : ℕ) : Type 0 where
  pub within : b ≤ limit
  pub before : k < length ps → b ≤ get_or ps k 0
  pub past : (at : ℕ) → at < limit → (k < length ps → at < get_or ps k 0) → at < b

-- the entries from a up to b, of n, whose locations have no position between them
pub record Run (ps : List ℕ) (first s a b n : ℕ) : Type 0 where
  pub some : a < b
  pub within : b ≤ n
  pub few : n < most_steps
  pub range : first + n * s ≤ farthest
  pub clear : Clear (length ps) ps (first + a * s) (first + (b - 1) * s + 1)

-- before the first position, or from the last one on: k positions, none or all, are at or below the biased location `first`, and stop i has the color
pub record Flat (ps : List ℕ) (i first k : ℕ) : Type 0 where
  pub near : first ≤ twice_bias
  pub splits : Splits ps first k
  pub outside : 0 < k → k ≡ length ps
  pub stop : i ≡ k - 1

-- the walks of a stretch, which go by `values`, are at its first location, and give the color of each location
pub record Stretched (color : ℕ → ℕ) (t : Stretch) : Type 0 where
  pub values : List ℕ
  pub place : ℕ
  pub gap : ℕ
  pub start : ℕ
  pub range : t.first ≤ farthest
  pub spans : Spans gap 1 start 0 t.count
  pub reached : 0 < t.count → Reached values place gap 1 start 0 0 t.walks
  pub colors : (k : ℕ) → k < t.count → walked_at values place gap 1 start 0 k ≡ color (t.first + k)

-- a stretch of biased locations begins at `low` or later, and not far away; where `at` lies from the first position up to but not including the last, so
-- does all of it
pub record Near (ps : List ℕ) (at low : ℕ) (t : Stretch) : Type 0 where
  pub not-far : t.first ≤ twice_bias
  pub from_low : 0 < t.count → low ≤ t.first
  pub inside : 0 < t.count → get_or ps 0 0 ≤ at → at < get_or ps (length ps - 1) 0 → (get_or ps 0 0 ≤ t.first) × (t.first + t.count ≤ get_or ps (length ps - 1) 0)

-- the walks of a stretch can be leapt to each of its locations, as many as walks are right for
pub record Leaps (t : Stretch) : Type 0 where
  pub few : t.count < most_steps
  pub fits : (n : ℕ) → n < t.count → (c : Channel) → Fits n (channel_of t.walks c)

-- the entries from a up to b are f's numbers, and those before a are as they were
pub record Stored (f : ℕ → ℕ) (a b : ℕ) (t t' : List ℕ) : Type 0 where
  pub kept : (k : ℕ) → k < a → get_or t' k 0 ≡ get_or t k 0
  pub new : (k : ℕ) → a ≤ k → k < b → get_or t' k 0 ≡ f k
