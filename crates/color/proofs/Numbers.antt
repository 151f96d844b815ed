-- The numbers of placed stops: how they are stored, and that they are stops that can be lent.
-- Assumes nothing.
use mathlib.Core.Path.{◌≡◌, refl, sym, ap, ap₂, ◌∙◌, fun_ext}
use mathlib.Core.Bool.{true, and-eq-true_iff}
use mathlib.Core.List.{List, [], ◌∷◌, ◌++◌, map, map-append}
use Prim.Native.Nat.{ℕ, zero, suc, ◌+◌, ◌*◌, ◌≤◌, ◌<◌, zero-le, suc-le-suc}
use native.Mathlib.Nat.{add-zero, zero-add, add-suc, suc-add, le_of_suc-le-suc, not-suc-le-zero, mul-le-mul}
use native.Mathlib.Numerals.{add-one}
use native.Mathlib.Omega.{arith}
use lib.IntN.{ℤ, nat_abs}
use lib.Dec.{leb}
use lib.Signed.{le_z}
use lib.ListN.{length, take, get_or, length-map, length-take}
use lib.Seq.{take-suc, get_or-take}
use borrow.Author.Tests.{leb-true}
use Rattle.numbers.specs.Biased.{bias, twice_bias, biased, unbiased}
use Rattle.numbers.proofs.Integers.{biased-is, biased-near, biased-order}
use Rattle.gradient.specs.declared.Color.{Color}
use Rattle.gradient.specs.Bytes.{ColorBytes}
use Rattle.gradient.specs.Lists.{all}
use Rattle.gradient.proofs.Lists.{all-at}
use Rattle.stops.specs.Blank.{blank_placed}
use Rattle.stops.specs.Bytes.{AllBytes}
use Rattle.stops.specs.Check.{placed_of, place_in, places_in, rising}
use Rattle.stops.specs.declared.PlacedStop.{PlacedStop}
use Rattle.stops.specs.declared.PlacedStops.{PlacedStops}
use Rattle.stops.proofs.Rising.{rising-at}
use Rattle.color.specs.Stop.{Channel, red, green, blue, alpha, premultiplied, stop_of}
use Rattle.color.specs.Lent.{values_at, stops_from, stops_of, Small, Rising, Lent}
use Rattle.color.specs.Numbers.{Lendable, positions_of, four_of, values_of}

-- ---- how they are stored
-- a position of a stop can be biased
pub position-near : (p : PlacedStops) → Lendable p → (i : ℕ) → i < p.count → i < length p.stops → nat_abs (get_or p.stops i blank_placed).position ≤ bias
unfolding places_in
position-near p h i k l =
    let m : i < length (placed_of p) = omega (arith, length-take p.count p.stops) in
    let e : get_or (placed_of p) i blank_placed ≡ get_or p.stops i blank_placed = get_or-take p.count p.stops i blank_placed k in
    leb-true _ _ (rw e at (all-at place_in (placed_of p) h.range i blank_placed m))

-- one position more
pub positions-more : (l : List PlacedStop) (i : ℕ) → i < length l
    → positions_of (take (i + 1) l) ≡ positions_of (take i l) ++ (biased (get_or l i blank_placed).position ∷ [])
positions-more l i h = rw (add-one i, take-suc l i blank_placed h, map-append _ (take i l) (get_or l i blank_placed ∷ []))

values-snoc : (l : List PlacedStop) (s : PlacedStop) → values_of (l ++ (s ∷ [])) ≡ values_of l ++ four_of s.color []
unfolding values_of
values-snoc [] s = refl
values-snoc (b ∷ l) s = ap (four_of b.color) (values-snoc l s)

-- the values of one stop more
pub values-more : (l : List PlacedStop) (i : ℕ) → i < length l → values_of (take (i + 1) l) ≡ values_of (take i l) ++ four_of (get_or l i blank_placed).color []
values-more l i h = rw (add-one i, take-suc l i blank_placed h) (values-snoc (take i l) (get_or l i blank_placed))

pub length-values : (l : List PlacedStop) → length (values_of l) ≡ 4 * length l
unfolding values_of
length-values [] = refl
length-values (s ∷ l) = let k = length-values l in omega arith

pub length-positions : (l : List PlacedStop) → length (positions_of l) ≡ length l
length-positions l = length-map l (λ (s : PlacedStop). biased s.position)

-- ---- that they are the stops
values-back : (l : List PlacedStop) (i : ℕ) → i < length l → values_at (values_of l) i ≡ premultiplied (get_or l i blank_placed).color
unfolding values_of
values-back [] i h = absurd (not-suc-le-zero h)
values-back (s ∷ l) zero h = fun_ext each
  where
    each : (k : Channel) → values_at (values_of (s ∷ l)) 0 k ≡ premultiplied s.color k
    each red = refl
    each green = refl
    each blue = refl
    each alpha = refl
values-back (s ∷ l) (suc i) h =
    let e : 4 * suc i ≡ suc (suc (suc (suc (4 * i)))) = omega arith in
    rw e (simp suc-add (values-back l i (le_of_suc-le-suc h)))

module _ (vs : List ℕ) where
  stops-back : (n : ℕ) (l : List PlacedStop) → all place_in l ≡ true
      → ((i : ℕ) → i < length l → values_at vs (n + i) ≡ premultiplied (get_or l i blank_placed).color)
      → stops_from n (positions_of l) vs ≡ map stop_of l
  unfolding stops_from
  stops-back n [] r h = refl
  stops-back n (s ∷ l) r h =
      let k = (and-eq-true_iff (place_in s) (all place_in l)).0 r in
      ap₂ ◌∷◌
      (λ i. record {
        value = (ap (values_at vs) (sym (add-zero n)) ∙ h 0 (suc-le-suc zero-le)) i;
        position = biased-is s.position bias (leb-true _ _ k.0) i;
      })
      (stops-back (suc n) l k.1 (λ i l. rw (suc-add n i, ← add-suc n i) (h (suc i) (suc-le-suc l))))

pub stops-of : (l : List PlacedStop) → all place_in l ≡ true → stops_of (positions_of l) (values_of l) ≡ map stop_of l
stops-of l r = stops-back (values_of l) 0 l r (λ i h. ap (values_at (values_of l)) (zero-add i) ∙ values-back l i h)

-- ---- that they can be lent
get_or-biased : (l : List PlacedStop) (i : ℕ) → i < length l → get_or (positions_of l) i 0 ≡ biased (get_or l i blank_placed).position
get_or-biased [] i h = absurd (not-suc-le-zero h)
get_or-biased (s ∷ l) zero h = refl
get_or-biased (s ∷ l) (suc i) h = get_or-biased l i (le_of_suc-le-suc h)

pub position-range : (l : List PlacedStop) → all place_in l ≡ true → (i : ℕ) → i < length l → get_or (positions_of l) i 0 ≤ twice_bias
position-range l r i h =
    let a : ℤ = (get_or l i blank_placed).position in
    let near = leb-true _ _ (all-at place_in l r i blank_placed h) in
    let e = biased-near a bias near in
    rw (get_or-biased l i h) (omega (arith, near, e))

-- positions in the order of what they stand for
rising-biased : (l : List PlacedStop) → all place_in l ≡ true → rising l ≡ true → Rising (positions_of l)
rising-biased l r e i h =
    let m : i + 1 < length l = omega (arith, length-map l (λ (s : PlacedStop). biased s.position)) in
    let a : ℤ = (get_or l i blank_placed).position in
    let b : ℤ = (get_or l (i + 1) blank_placed).position in
    let p : le_z a b ≡ true = rising-at l e i (i + 1) (omega arith) m in
    let ha : unbiased (biased a) ≡ a = biased-is a bias (leb-true _ _ (all-at place_in l r i blank_placed (omega arith))) in
    let hb : unbiased (biased b) ≡ b = biased-is b bias (leb-true _ _ (all-at place_in l r (i + 1) blank_placed m)) in
    let o : leb (biased a) (biased b) ≡ true = sym (biased-order (biased a) (biased b) bias) ∙ ap₂ le_z ha hb ∙ p in
    let ea : get_or (positions_of l) i 0 ≡ biased a = get_or-biased l i (omega arith) in
    let eb : get_or (positions_of l) (i + 1) 0 ≡ biased b = get_or-biased l (i + 1) m in
    rw (ea, eb) (leb-true (biased a) (biased b) o)

small-four : (c : Color) → ColorBytes c → (k : Channel) → premultiplied c k ≤ 65025
unfolding premultiplied
small-four c b red = mul-le-mul b.red b.alpha
small-four c b green = mul-le-mul b.green b.alpha
small-four c b blue = mul-le-mul b.blue b.alpha
small-four c b alpha = omega (arith, b.alpha)

small-values : (l : List PlacedStop) → AllBytes l → Small (values_of l)
unfolding values_of
small-values [] b i = omega arith
small-values (s ∷ l) b zero = small-four s.color (b 0) red
small-values (s ∷ l) b (suc zero) = small-four s.color (b 0) green
small-values (s ∷ l) b (suc (suc zero)) = small-four s.color (b 0) blue
small-values (s ∷ l) b (suc (suc (suc zero))) = small-four s.color (b 0) alpha
small-values (s ∷ l) b (suc (suc (suc (suc i)))) = small-values l (λ j. b (suc j)) i

pub lent : (p : PlacedStops) → Lendable p → 0 < length (placed_of p) → AllBytes (placed_of p) → Lent (positions_of (placed_of p)) (values_of (placed_of p))
unfolding places_in
lent p h some b =
    let l : List PlacedStop = placed_of p in
    let m = length-positions l in
    let n = length-values l in
    record { some = omega arith; four = omega arith; small = small-values l b; rising = rising-biased l h.range h.rising }
