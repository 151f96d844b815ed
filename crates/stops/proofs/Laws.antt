-- What placed stops that are accepted hold.
-- Assumes nothing.
use mathlib.Core.Path.{◌≡◌, refl}
use mathlib.Core.Bool.{true}
use Prim.Native.Nat.{ℕ, ◌<◌}
use native.Mathlib.Omega.{arith}
use lib.ListN.{length, get_or, length-take}
use lib.Seq.{get_or-take}
use borrow.Author.Tests.{ltb-false, le-ltb, leb-true, le-leb, not-false}
use Rattle.replies.proofs.Laws.{or_else-zero, given-zero}
use Rattle.gradient.specs.Lists.{all}
use Rattle.gradient.proofs.Lists.{all_first, all_from}
use Rattle.stops.specs.declared.PlacedStops.{PlacedStops}
use Rattle.stops.specs.Blank.{blank_placed}
use Rattle.stops.specs.Check.{placed_of, place_in, places_in, check_placed_of, AcceptedPlaced}

pub accepted-placed : (p : PlacedStops) → check_placed_of p ≡ 0 → AcceptedPlaced p
unfolding check_placed_of places_in
accepted-placed p e =
    let a = or_else-zero _ _ e in
    let b = or_else-zero _ _ a.1 in
    let s = or_else-zero _ _ b.1 in
    let r = or_else-zero _ _ s.1 in
    let places : all place_in (placed_of p) ≡ true = not-false _ (given-zero _ _ r.0) in
    record {
      two = ltb-false _ _ (given-zero _ _ a.0);
      fit = ltb-false _ _ (given-zero _ _ r.1);
      rising = not-false _ (given-zero _ _ b.0);
      blank = not-false _ (given-zero _ _ s.0);
      in-range = λ i h. leb-true _ _ (all_first place_in blank_placed refl p.count p.stops places i h);
    }

-- the positions of accepted stops are in their range
pub accepted-places : (p : PlacedStops) → AcceptedPlaced p → places_in p ≡ true
unfolding places_in
accepted-places p a = all_from place_in (placed_of p) blank_placed here
  where
    here : (i : ℕ) → i < length (placed_of p) → place_in (get_or (placed_of p) i blank_placed) ≡ true
    here i h =
        let l : i < p.count = omega (arith, length-take p.count p.stops) in
        rw get_or-take (le-leb _ _ (a.in-range i l))

pub accepting-placed : (p : PlacedStops) → AcceptedPlaced p → check_placed_of p ≡ 0
unfolding check_placed_of
accepting-placed p a = simp (le-ltb p.count 2 a.two, a.rising, a.blank, accepted-places p a, le-ltb 16 p.count a.fit)
