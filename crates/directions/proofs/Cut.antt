-- The code's direction is the paper's with its angle cut off.
-- Assumes nothing.
use mathlib.Core.Path.{◌≡◌, refl, sym, ap}
use mathlib.Core.Bool.{true}
use mathlib.Core.List.{List}
use Prim.Native.Nat.{ℕ}
use lib.IntN.{ℤ}
use Rattle.gradient.specs.Range.{direction_in}
use Rattle.gradient.specs.declared.Direction.{Direction}
use Rattle.gradient.specs.declared.Direction.TheVariants as D
use Rattle.text.specs.Text.{bytes, Read, ◌>>=◌, map_read, keyword_of, after_gap}
use Rattle.text.proofs.Laws.{map-bind, map-inside, map-or}
use Rattle.text.proofs.WholeTexts.{map-gap}
use Rattle.tokens.specs.declared.Unit.{Unit}
use Rattle.tokens.specs.declared.Unit.TheVariants as U
use Rattle.tokens.specs.Number.{number_of, exact}
use Rattle.tokens.specs.Cut.{cut, cut_number}
use Rattle.tokens.proofs.Cut.{number_cut, angle-cut, angle-kept}
use Rattle.directions.specs.Direction.{horizontal_of, vertical_of, horizontal_first, vertical_first, to_of, as_angle, angle_of, direction_of}

-- a number read as a value of some kind, where that kind cuts its number off by h
pub as-cut : {B : Type 0} (h : B → B) (f : ℤ → Unit → List ℕ → Read B) → ((z : ℤ) (u : Unit) (l : List ℕ) → map_read h (f z u l) ≡ f (cut z) u l)
    → (l : List ℕ) → (number_of cut l >>= λ n k. f n.value n.unit k) ≡ map_read h (number_of exact l >>= λ n k. f n.value n.unit k)
as-cut h f e l = rw (number_cut l) (sym (map-bind h cut_number _ _ (λ n k. e n.value n.unit k) (number_of exact l)))

abbrev pub cut_direction : Direction → Direction
cut_direction (D.Side s) = D.Side s
cut_direction (D.Corner v h) = D.Corner v h
cut_direction (D.Angle a) = D.Angle (cut a)

-- a side or a corner has no number
horizontal-first : (l : List ℕ) → map_read cut_direction (horizontal_first l) ≡ horizontal_first l
unfolding horizontal_first
horizontal-first l = map-inside cut_direction _ _ (λ a k. rw (map-or, map-inside cut_direction _ _ (λ v e. refl) (after_gap vertical_of k))) (horizontal_of l)

vertical-first : (l : List ℕ) → map_read cut_direction (vertical_first l) ≡ vertical_first l
unfolding vertical_first
vertical-first l = map-inside cut_direction _ _ (λ v k. rw (map-or, map-inside cut_direction _ _ (λ a e. refl) (after_gap horizontal_of k))) (vertical_of l)

to-cut : (l : List ℕ) → map_read cut_direction (to_of l) ≡ to_of l
unfolding to_of
to-cut l = map-inside cut_direction _ _ (λ _ k. map-gap cut_direction _ _ (λ m. rw (map-or, horizontal-first m, vertical-first m)) k) (keyword_of (bytes "to") l)

angle-of-cut : (l : List ℕ) → angle_of cut l ≡ map_read cut_direction (angle_of exact l)
unfolding angle_of
angle-of-cut l = as-cut cut_direction as_angle by-unit l
  where
    by-unit : (z : ℤ) (u : Unit) (l : List ℕ) → map_read cut_direction (as_angle z u l) ≡ as_angle (cut z) u l
    by-unit z U.Length l = refl
    by-unit z U.Percentage l = refl
    by-unit z U.Angle l = refl

pub direction-cut : (l : List ℕ) → direction_of cut l ≡ map_read cut_direction (direction_of exact l)
unfolding direction_of
direction-cut l = rw (angle-of-cut l, map-or, to-cut l)

-- the cut changes nothing that the range can tell, and nothing at all in range
pub direction-in-cut : (d : Direction) → direction_in (cut_direction d) ≡ direction_in d
direction-in-cut (D.Side s) = refl
direction-in-cut (D.Corner v h) = refl
direction-in-cut (D.Angle a) = angle-cut a

pub direction-kept : (d : Direction) → direction_in d ≡ true → cut_direction d ≡ d
direction-kept (D.Side s) e = refl
direction-kept (D.Corner v h) e = refl
direction-kept (D.Angle a) e = ap D.Angle (angle-kept a e)
