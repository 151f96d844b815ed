-- A ramp: the color of every location, in one list of words. The head comes first: word 0 is the number of stops, word 1 the first location of the
-- table, word 2 is 1 where the stops are repeated, and word 3 is not used; then there is room for 16 positions, biased, and for 64 values. The rest is the
-- table, one packed color for each unit.
-- Assumes nothing.
use Rattle.std.specs.Prelude.{◌≡◌, Bool, true, false, cond, List, map, ℕ, ◌+◌, ◌-◌, ◌*◌, ◌≤◌, ◌<◌, eqb, pos, length, get_or, take, drop}
use Rattle.numbers.specs.Biased.{bias, twice_bias}
use Rattle.stops.specs.Bytes.{AllBytes}
use Rattle.stops.specs.declared.PlacedStop.{PlacedStop}
use Rattle.color.specs.Stop.{Stop, stop_of}
use Rattle.color.specs.Byte.{bytes}
use Rattle.color.specs.Lent.{Lent, stops_of}
use Rattle.color.specs.Paint.{Paint, once, repeated, paint_at}
use Rattle.words.specs.Word.{word_bytes}
use Rattle.table.specs.Table.{packed, Stretched}
use Rattle.table.specs.declared.Stretch.{Stretch}
use Rattle.repeats.specs.Repeats.{first_in, last_in, Periodic}

-- the words of the head, and the stops that it has room for
abbrev pub head_size : ℕ
head_size = 84

abbrev pub most_stops : ℕ
most_stops = 16

-- the code takes locations below 2^63, so that the bias can be added to them
abbrev pub location_limit : ℕ
location_limit = 9223372036854775808

-- the positions and the values of the stops
abbrev pub positions_in : List ℕ → List ℕ
positions_in r = take (get_or r 0 0) (drop 4 r)

abbrev pub values_in : List ℕ → List ℕ
values_in r = take (4 * get_or r 0 0) (drop 20 r)

-- the stops, and whether they are repeated
abbrev pub stops_in : List ℕ → List Stop
stops_in r = stops_of (positions_in r) (values_in r)

abbrev pub repeats_in : List ℕ → Bool
repeats_in r = eqb (get_or r 2 0) 1

abbrev pub period_in : List ℕ → ℕ
period_in r = last_in (positions_in r) - first_in (positions_in r)

-- the table, and its first location
abbrev pub table_in : List ℕ → List ℕ
table_in r = drop head_size r

abbrev pub base_in : List ℕ → ℕ
base_in r = get_or r 1 0

-- the color of the location s, as a word
unfoldable pub color_in : List ℕ → ℕ → ℕ
color_in r s = packed (paint_at (cond (repeats_in r) (repeated (stops_in r)) (once (stops_in r))) (pos s))

-- t is a table of colors with an entry for each unit from `base` on
abbrev pub Entries : (ℕ → ℕ) → ℕ → List ℕ → Type 0
Entries color base t = (k : ℕ) → k < length t → get_or t k 0 ≡ color (base + k)

-- .. and with an entry every s units
abbrev pub Spread : (ℕ → ℕ) → ℕ → ℕ → List ℕ → Type 0
Spread color base s t = (k : ℕ) → k < length t → get_or t k 0 ≡ color (base + k * s)

-- the head of r holds stops
pub record Stops (r : List ℕ) : Type 0 where
  pub head : head_size ≤ length r
  pub few : get_or r 0 0 ≤ most_stops
  pub lent : Lent (positions_in r) (values_in r)
  pub period : repeats_in r ≡ true → Periodic (positions_in r) (values_in r)

-- r is a ramp: stops, and a table of their colors
pub record Ramp (r : List ℕ) : Type 0 where
  pub stops : Stops r
  pub table : Entries (color_in r) (base_in r) (table_in r)
  pub range : base_in r + length (table_in r) ≤ bias

-- the head of r holds the stops l, not repeated, whose colors are made of bytes
pub record Holds (l : List PlacedStop) (r : List ℕ) : Type 0 where
  pub stops : Stops r
  pub same : stops_in r ≡ map stop_of l
  pub plain : repeats_in r ≡ false
  pub near : last_in (positions_in r) ≤ twice_bias
  pub bytes : AllBytes l

-- the head of r colors as the paint p does
pub record Made (p : Paint) (r : List ℕ) : Type 0 where
  pub stops : Stops r
  pub colors : (s : ℕ) → word_bytes (color_in r s) ≡ bytes (paint_at p (pos s))

-- the stretch t is one of the ramp's
abbrev pub Held : List ℕ → Stretch → Type 0
Held r t = Stretched (color_in r) t

-- .. where its locations are biased
pub record Biased (r : List ℕ) (t : Stretch) : Type 0 where
  pub colors : Stretched (λ (at : ℕ). color_in r (at - bias)) t
  pub low : 0 < t.count → bias ≤ t.first

-- r is a ramp of the same colors as q
pub record Like (q r : List ℕ) : Type 0 where
  pub ramp : Ramp r
  pub colors : (s : ℕ) → color_in r s ≡ color_in q s
