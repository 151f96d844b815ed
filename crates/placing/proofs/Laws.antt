-- What holds of placed stops: as many as the gradient has, with the same colors in the same order, rising, near enough to 0 for their
-- layout; so their own check accepts them.
-- Assumes nothing.
use mathlib.Core.Path.{◌≡◌, refl, ap, ◌∙◌}
use mathlib.Core.Bool.{true, and-eq-true_iff}
use mathlib.Core.List.{List, [], ◌∷◌, map}
use Prim.Native.Nat.{ℕ, zero, suc, ◌+◌, ◌-◌, ◌≤◌, ◌<◌, suc-le-suc}
use native.Mathlib.Omega.{arith}
use lib.IntN.{ℤ, pos, nat_abs}
use lib.ListN.{length, take, get_or, replicate, length-map, length-take, get_or-map, get_or-append}
use lib.Seq.{take-append_seam, drop-append_seam}
use lib.Signed.{le_z}
use Rattle.numbers.specs.Biased.{unbiased}
use Rattle.gradient.specs.declared.Color.{Color}
use Rattle.gradient.specs.declared.Position.{Position}
use Rattle.gradient.specs.declared.Position.TheVariants as P
use Rattle.gradient.specs.declared.Stop.{Stop}
use Rattle.gradient.specs.declared.Gradient.{Gradient}
use Rattle.gradient.specs.Lists.{all}
use Rattle.gradient.proofs.Lists.{all-copies}
use Rattle.gradient.specs.Blank.{blank_stop}
use Rattle.gradient.specs.Range.{position_in, stop_in}
use Rattle.gradient.specs.Check.{stops_of, Accepted}
use Rattle.line.specs.Box.{Box}
use Rattle.line.specs.Line.{length_of}
use Rattle.line.specs.Bounds.{longest, furthest}
use Rattle.line.proofs.Bounds.{bounds}
use Rattle.stops.specs.declared.PlacedStop.{PlacedStop}
use Rattle.stops.specs.Blank.{blank_placed, is_blank_placed}
use Rattle.stops.specs.Check.{placed_of, rising_from, rising, blank_past_placed, check_placed_of}
use Rattle.stops.proofs.Laws.{accepting-placed}
use Rattle.placing.specs.Spot.{Spot, unplaced, at, spot_of}
use Rattle.placing.specs.Fixup.{first_at, last_at, ends_placed, raised_to, raised_from, raised, spaced_from, fixup}
use Rattle.placing.specs.Placed.{spots_of, at_positions, placed_stops, placed_in, positions_in, listed}
use Rattle.placing.proofs.Sorting.{NotBelow, Rising, fixup-rising}
use Rattle.placing.proofs.Within.{AllWithin, SpotWithin, within, biased-small}
use Rattle.placing.proofs.Whole.{length_at}

-- ---- as many stops, with the same colors in the same order
length-first : (z : ℤ) (l : List Spot) → length (first_at z l) ≡ length l
unfolding first_at
length-first z [] = refl
length-first z (s ∷ l) = refl

length_last : (z : ℤ) (l : List Spot) → length (last_at z l) ≡ length l
unfolding last_at
length_last z [] = refl
length_last z (s ∷ []) = refl
length_last z (s ∷ t ∷ l) = ap suc (length_last z (t ∷ l))

length-raised : (g : Spot) (l : List Spot) → length (raised_from g l) ≡ length l
unfolding raised_from
length-raised g [] = refl
length-raised g (unplaced ∷ l) = ap suc (length-raised g l)
length-raised g (at p ∷ l) = ap suc (length-raised (at (raised_to g p)) l)

length-spaced : (A : ℤ) (m : ℕ) (l : List Spot) → length (spaced_from A m l) ≡ length l
unfolding spaced_from
length-spaced A m [] = refl
length-spaced A m (at p ∷ l) = ap suc (length-spaced p 1 l)
length-spaced A m (unplaced ∷ l) = ap suc (length-spaced A (m + 1) l)

pub length-fixup : (line : ℕ) (l : List Spot) → length (fixup line l) ≡ length l
length-fixup line l =
    length-spaced (pos 0) 1 (raised (ends_placed line l))
    ∙ length-raised unplaced (ends_placed line l)
    ∙ length_last (pos line) (first_at (pos 0) l)
    ∙ length-first (pos 0) l

colors-at : (stops : List Stop) (zs : List ℤ) → length zs ≡ length stops → map (λ p. p.color) (at_positions stops zs) ≡ map (λ s. s.color) stops
unfolding at_positions
colors-at [] zs h = refl
colors-at (s ∷ stops) [] h = absurd (omega arith)
colors-at (s ∷ stops) (z ∷ zs) h = ap (λ (l : List Color). s.color ∷ l) (colors-at stops zs (omega arith))

positions-at : (stops : List Stop) (zs : List ℤ) → length zs ≡ length stops → map (λ p. p.position) (at_positions stops zs) ≡ zs
unfolding at_positions
positions-at [] [] h = refl
positions-at [] (z ∷ zs) h = absurd (omega arith)
positions-at (s ∷ stops) [] h = absurd (omega arith)
positions-at (s ∷ stops) (z ∷ zs) h = ap (λ (l : List ℤ). z ∷ l) (positions-at stops zs (omega arith))

-- ---- rising: no stop is below an earlier one
not-below-rising : (a : ℤ) (stops : List Stop) (zs : List ℤ) → NotBelow a zs → rising_from a (at_positions stops zs) ≡ true
unfolding at_positions NotBelow rising_from
not-below-rising a [] zs h = refl
not-below-rising a (s ∷ stops) [] h = refl
not-below-rising a (s ∷ stops) (z ∷ zs) h =
    (and-eq-true_iff (le_z a z) (rising_from z (at_positions stops zs))).1 (h.0, not-below-rising z stops zs h.1)

rising-at : (stops : List Stop) (zs : List ℤ) → Rising zs → rising (at_positions stops zs) ≡ true
unfolding at_positions Rising
rising-at [] zs h = refl
rising-at (s ∷ stops) [] h = refl
rising-at (s ∷ stops) (z ∷ zs) h = not-below-rising z stops zs h

module _ (line : ℕ) (stops : List Stop) where
  length-positions : length (fixup line (spots_of line stops)) ≡ length stops
  length-positions = length-fixup line (spots_of line stops) ∙ length-map stops (λ s. spot_of line s.position)

  pub as_many : length (placed_stops line stops) ≡ length stops
  unfolding placed_stops
  as_many = length_at stops (fixup line (spots_of line stops)) length-positions

  pub same-colors : map (λ p. p.color) (placed_stops line stops) ≡ map (λ s. s.color) stops
  unfolding placed_stops
  same-colors = colors-at stops (fixup line (spots_of line stops)) length-positions

  pub same-positions : map (λ p. p.position) (placed_stops line stops) ≡ fixup line (spots_of line stops)
  unfolding placed_stops
  same-positions = positions-at stops (fixup line (spots_of line stops)) length-positions

  pub placed-rising : rising (placed_stops line stops) ≡ true
  unfolding placed_stops
  placed-rising = rising-at stops (fixup line (spots_of line stops)) (fixup-rising line (spots_of line stops))

-- ---- a list as a value: its stops are the list, and where it has 2 to 16 stops, rising and in range, the check accepts it
pub listed-is : (l : List PlacedStop) → placed_of (listed l) ≡ l
listed-is l = take-append_seam l (replicate (16 - length l) blank_placed)

blank-past : (l : List PlacedStop) → blank_past_placed (listed l) ≡ true
unfolding blank_past_placed is_blank_placed
blank-past l = ap (all is_blank_placed) (drop-append_seam l (replicate (16 - length l) blank_placed)) ∙ all-copies is_blank_placed blank_placed refl (16 - length l)

pub listed-accepted : (l : List PlacedStop) → 2 ≤ length l → length l ≤ 16 → rising l ≡ true
    → ((i : ℕ) → nat_abs (get_or l i blank_placed).position ≤ 33554432) → check_placed_of (listed l) ≡ 0
listed-accepted l two fit r near = accepting-placed (listed l) (record {
  two = two;
  fit = fit;
  rising = ap rising (listed-is l) ∙ r;
  blank = blank-past l;
  in-range = λ i h. rw (get_or-append l (replicate (16 - length l) blank_placed) blank_placed i h) (near i);
})

-- ---- the stops of an accepted gradient in a box
spot-within : (line : ℕ) (p : Position) → line ≤ longest → position_in p ≡ true → SpotWithin furthest (spot_of line p)
spot-within line P.Auto k e = tt
spot-within line (P.Length t) k e = bounds.length-position t e
spot-within line (P.Percentage p) k e = bounds.percentage-position p line e k

spots-within : (line n : ℕ) (l : List Stop) → line ≤ longest → ((i : ℕ) → i < n → stop_in (get_or l i blank_stop) ≡ true)
    → (i : ℕ) → SpotWithin furthest (get_or (spots_of line (take n l)) i unplaced)
spots-within line zero l k f i = tt
spots-within line (suc n) [] k f i = tt
spots-within line (suc n) (s ∷ l) k f zero = spot-within line s.position k (f 0 (omega arith))
spots-within line (suc n) (s ∷ l) k f (suc i) = spots-within line n l k (λ j h. f (suc j) (suc-le-suc h)) i

module _ (g : Gradient) (w h : ℕ) where
  pub positions-are : positions_in g w h ≡ fixup (length_of g.shape w h) (spots_of (length_of g.shape w h) (stops_of g))
  unfolding placed_in
  positions-are = same-positions (length_of g.shape w h) (stops_of g)

  -- the stops of the gradient, at these positions
  pub placed-at-positions : at_positions (stops_of g) (positions_in g w h) ≡ placed_in g w h
  unfolding placed_in placed_stops
  placed-at-positions = ap (at_positions (stops_of g)) positions-are

  rising-in : rising (placed_in g w h) ≡ true
  unfolding placed_in
  rising-in = placed-rising (length_of g.shape w h) (stops_of g)

  module _ (b : Box w h) (a : Accepted g) where
    pub positions-within : AllWithin furthest (positions_in g w h)
    positions-within =
        let line : ℕ = length_of g.shape w h in
        let k : line ≤ longest = bounds.length g.shape w h b a.shape in
        rw positions-are (within furthest line (spots_of line (stops_of g)) (omega arith) (spots-within line g.count g.stops k a.stops))

    -- biased, they are small
    pub biased-within : (us : List ℕ) → map unbiased (take g.count us) ≡ positions_in g w h → (i : ℕ) → i < g.count → get_or us i 0 ≤ 67108864
    biased-within us e i k = omega (arith, biased-small furthest g.count us (rw e positions-within) i k)

    pub placed-within : (i : ℕ) → nat_abs (get_or (placed_in g w h) i blank_placed).position ≤ furthest
    placed-within i = rw (← get_or-map (λ (p : PlacedStop). p.position) (placed_in g w h) i blank_placed) (positions-within i)

    -- the array of a gradient has 16 places
    module _ (full : length g.stops ≡ 16) where
      pub as-many-in : length (placed_in g w h) ≡ g.count
      unfolding placed_in
      as-many-in = as_many (length_of g.shape w h) (stops_of g) ∙ omega (arith, length-take g.count g.stops, a.fit)

      pub placed-accepted : check_placed_of (listed (placed_in g w h)) ≡ 0
      placed-accepted =
          listed-accepted (placed_in g w h) (omega (arith, as-many-in, a.two)) (omega (arith, as-many-in, a.fit)) rising-in (λ i. omega (arith, placed-within i))
