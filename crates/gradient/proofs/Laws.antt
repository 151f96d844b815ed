-- Laws for the crates above: what a gradient that is accepted holds, and what a range says of a number.
-- Assumes nothing.
use mathlib.Core.Path.{◌≡◌, refl}
use mathlib.Core.Bool.{true, and-eq-true_iff}
use Prim.Native.Nat.{ℕ, ◌%◌, ◌≤◌, ◌<◌}
use native.Mathlib.Omega.{arith}
use lib.IntN.{ℤ, nat_abs}
use lib.ListN.{length, get_or, length-take}
use lib.Seq.{get_or-take}
use lib.Signed.{non_neg}
use borrow.Author.Tests.{ltb-false, le-ltb, leb-true, eqb-true, not-false}
use Rattle.replies.proofs.Laws.{or_else-zero, given-zero}
use Rattle.gradient.specs.Lists.{all}
use Rattle.gradient.specs.Blank.{blank_color, blank_stop}
use Rattle.gradient.specs.Bytes.{ColorBytes}
use Rattle.gradient.specs.Range.{length_in, radius_in, percentage_in, angle_in, coordinate_in, direction_in, size_in, shape_in, stop_in}
use Rattle.gradient.specs.Check.{stops_of, stops_in, check_of, Accepted}
use Rattle.gradient.specs.declared.Direction.{Direction}
use Rattle.gradient.specs.declared.Size.{Size}
use Rattle.gradient.specs.declared.Coordinate.{Coordinate}
use Rattle.gradient.specs.declared.Shape.TheVariants.{Linear, Circle}
use Rattle.gradient.specs.declared.Gradient.{Gradient}
use Rattle.gradient.proofs.Lists.{all_first, all_from}

-- the blank color is made of bytes
pub blank-bytes : ColorBytes blank_color
blank-bytes = record { red = omega arith; green = omega arith; blue = omega arith; alpha = omega arith }

-- ---- the gradients that are accepted
each_in : (g : Gradient) → stops_in g ≡ true → (i : ℕ) → i < g.count → stop_in (get_or g.stops i blank_stop) ≡ true
unfolding stops_in
each_in g e = all_first stop_in blank_stop refl g.count g.stops e

pub accepted : (g : Gradient) → check_of g ≡ 0 → Accepted g
unfolding check_of
accepted g e =
    let a = or_else-zero _ _ e in
    let b = or_else-zero _ _ a.1 in
    let s = or_else-zero _ _ b.1 in
    let p = or_else-zero _ _ s.1 in
    record {
      two = ltb-false _ _ (given-zero _ _ a.0);
      fit = ltb-false _ _ (given-zero _ _ p.1);
      blank = not-false _ (given-zero _ _ b.0);
      shape = not-false _ (given-zero _ _ s.0);
      stops = each_in g (not-false _ (given-zero _ _ p.0));
    }

pub accepting : (g : Gradient) → Accepted g → check_of g ≡ 0
unfolding check_of stops_in
accepting g a = simp (le-ltb g.count 2 a.two, a.blank, a.shape, all_in, le-ltb 16 g.count a.fit)
  where
    here : (i : ℕ) → i < length (stops_of g) → stop_in (get_or (stops_of g) i blank_stop) ≡ true
    here i h =
        let l : i < g.count = omega (arith, length-take g.count g.stops) in
        rw get_or-take (a.stops i l)

    all_in : all stop_in (stops_of g) ≡ true
    all_in = all_from stop_in (stops_of g) blank_stop here

-- ---- numbers in range
pub length-range : (t : ℤ) → length_in t ≡ true → nat_abs t ≤ 8192000
length-range t e = leb-true _ _ e

pub radius-range : (t : ℤ) → radius_in t ≡ true → (non_neg t ≡ true) × (nat_abs t ≤ 8192000)
radius-range t e = let k = (and-eq-true_iff _ _).0 e in (k.0, length-range t k.1)

pub percentage-range : (p : ℤ) → percentage_in p ≡ true → nat_abs p ≤ 1000000
percentage-range p e = leb-true _ _ e

pub angle-range : (a : ℤ) → angle_in a ≡ true → (nat_abs a ≤ 3600000) × (nat_abs a % 250 ≡ 0)
angle-range a e = let k = (and-eq-true_iff _ _).0 e in (leb-true _ _ k.0, eqb-true _ _ k.1)

pub linear-range : (d : Direction) → shape_in (Linear d) ≡ true → direction_in d ≡ true
unfolding shape_in
linear-range d e = e

pub circle-range : (s : Size) (x : Coordinate) (y : Coordinate) → shape_in (Circle s x y) ≡ true
    → (size_in s ≡ true) × (coordinate_in x ≡ true) × (coordinate_in y ≡ true)
unfolding shape_in
circle-range s x y e =
    let k = (and-eq-true_iff _ _).0 e in
    let l = (and-eq-true_iff _ _).0 k.1 in
    (k.0, l.0, l.1)
