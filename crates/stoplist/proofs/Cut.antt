-- What cutting the numbers of stops off changes: nothing that a range can tell. Stops whose numbers are in their ranges are not changed at all.
-- Assumes nothing.
use mathlib.Core.Path.{◌≡◌, refl, sym, ap, ◌∙◌}
use mathlib.Core.Bool.{Bool, true, false, cond, and-eq-true_iff}
use mathlib.Core.List.{List, [], ◌∷◌, map}
use Prim.Native.Nat.{ℕ, ◌≤◌}
use lib.Dec.{ltb}
use lib.IntN.{ℤ}
use lib.ListN.{length, length-map}
use borrow.Author.Tests.{ltb-false}
use Rattle.text.specs.Text.{Read, got, refused, ◌>>=◌, ◌or_read◌, map_read, after_gap, whole_of}
use Rattle.text.proofs.Laws.{map-bind, map-inside, map-or, map-cond, map-map, got-refused}
use Rattle.gradient.specs.Lists.{all}
use Rattle.gradient.specs.Range.{position_in, stop_in}
use Rattle.gradient.specs.declared.Color.{Color}
use Rattle.gradient.specs.declared.Position.{Position}
use Rattle.gradient.specs.declared.Position.TheVariants as P
use Rattle.gradient.specs.declared.Stop.{Stop}
use Rattle.tokens.specs.Number.{number_of, exact}
use Rattle.tokens.specs.Cut.{cut, cut_number}
use Rattle.tokens.specs.Color.{color_of}
use Rattle.tokens.specs.declared.Unit.{Unit}
use Rattle.tokens.specs.declared.Unit.TheVariants as U
use Rattle.tokens.proofs.Cut.{number_cut, length_cut, percentage-cut, length-kept, percentage-kept}
use Rattle.stoplist.specs.Stops.{stop, as_position, stop_position_of, stop_of, stops_of, two_stops_of}
use Rattle.text.proofs.WholeTexts.{map-gap, whole-map}

abbrev pub cut_position : Position → Position
cut_position P.Auto = P.Auto
cut_position (P.Length z) = P.Length (cut z)
cut_position (P.Percentage z) = P.Percentage (cut z)

abbrev pub cut_stop : Stop → Stop
cut_stop s = stop s.color (cut_position s.position)

-- ---- the code's stops are the paper's, cut off
pub position-cut : (l : List ℕ) → stop_position_of cut l ≡ map_read cut_position (stop_position_of exact l)
unfolding stop_position_of
position-cut l = rw (number_cut l) (sym (map-bind cut_position cut_number _ _ (λ n k. by-unit n.unit n.value k) (number_of exact l)))
  where
    by-unit : (u : Unit) (z : ℤ) (k : List ℕ) → map_read cut_position (as_position u z k) ≡ as_position u (cut z) k
    by-unit U.Length z k = refl
    by-unit U.Percentage z k = refl
    by-unit U.Angle z k = refl

pub stop-cut : (l : List ℕ) → stop_of cut l ≡ map_read cut_stop (stop_of exact l)
unfolding stop_of
stop-cut l = sym (map-inside cut_stop _ _ second (color_of l))
  where
    second : (v : Color) (k : List ℕ) → map_read cut_stop ((after_gap (stop_position_of exact) k >>= λ p e. got (stop v p) e) or_read got (stop v P.Auto) k)
        ≡ ((after_gap (stop_position_of cut) k >>= λ p e. got (stop v p) e) or_read got (stop v P.Auto) k)
    second v k = rw (map-or, ← map-gap cut_position (stop_position_of exact) (stop_position_of cut) (λ m. sym (position-cut m)) k) (ap (λ (r : Read Stop). r or_read got (stop v P.Auto) k) (map-bind cut_stop cut_position _ _ (λ p e. refl) (after_gap (stop_position_of exact) k)))

stops-cut : (items : List (List ℕ)) → stops_of cut items ≡ map_read (map cut_stop) (stops_of exact items)
unfolding stops_of
stops-cut [] = refl
stops-cut (i ∷ items) = rw (whole-map cut_stop (stop_of exact) (stop_of cut) stop-cut i, stops-cut items) (sym (map-bind (map cut_stop) cut_stop _ _ (λ s k. map-map _ _ (stops_of exact items) ∙ sym (map-map _ _ (stops_of exact items))) (whole_of (stop_of exact) i)))

pub two-stops-cut : (items : List (List ℕ)) → two_stops_of cut items ≡ map_read (map cut_stop) (two_stops_of exact items)
unfolding two_stops_of
two-stops-cut items = rw (stops-cut items) (sym (map-bind (map cut_stop) (map cut_stop) _ _ (λ ss k. rw (length-map ss cut_stop) (map-cond (map cut_stop) (ltb (length ss) 2) refused (got ss []))) (stops_of exact items)))

-- ---- ranges
pub stop-in-cut : (s : Stop) → stop_in (cut_stop s) ≡ stop_in s
stop-in-cut s = go s.position
  where
    go : (p : Position) → position_in (cut_position p) ≡ position_in p
    go P.Auto = refl
    go (P.Length z) = length_cut z
    go (P.Percentage z) = percentage-cut z

pub all-in-cut : (ss : List Stop) → all stop_in (map cut_stop ss) ≡ all stop_in ss
all-in-cut [] = refl
all-in-cut (s ∷ ss) = rw (stop-in-cut s, all-in-cut ss)

stop-kept : (s : Stop) → stop_in s ≡ true → cut_stop s ≡ s
stop-kept s h = ap (stop s.color) (go s.position h)
  where
    go : (p : Position) → position_in p ≡ true → cut_position p ≡ p
    go P.Auto h = refl
    go (P.Length z) h = ap P.Length (length-kept z h)
    go (P.Percentage z) h = ap P.Percentage (percentage-kept z h)

pub stops-kept : (ss : List Stop) → all stop_in ss ≡ true → map cut_stop ss ≡ ss
stops-kept [] h = refl
stops-kept (s ∷ ss) h = let k = (and-eq-true_iff (stop_in s) (all stop_in ss)).0 h in rw (stop-kept s k.0, stops-kept ss k.1)

-- ---- two stops or more
pub two-more : {ss : List Stop} {k : List ℕ} (keep : ℤ → ℤ) (items : List (List ℕ)) → got ss k ≡ two_stops_of keep items → 2 ≤ length ss
unfolding two_stops_of
two-more {ss} {k} keep items h = go (stops_of keep items) h
  where
    go : (r : Read (List Stop)) → got ss k ≡ (r >>= λ xs _. cond (ltb (length xs) 2) refused (got xs [])) → 2 ≤ length ss
    go (got xs l) e = by-test (ltb (length xs) 2) refl e
      where
        by-test : (t : Bool) → ltb (length xs) 2 ≡ t → got ss k ≡ cond t refused (got xs []) → 2 ≤ length ss
        by-test true q e = absurd (got-refused e)
        by-test false q e = let w : xs ≡ ss = cc in rw (← w) (ltb-false _ _ q)
    go refused e = absurd (got-refused e)
