-- Numbers cut off or kept exact: the answer to a text is the same. Assumes nothing.
use mathlib.Core.Path.{◌≡◌, refl, sym, ap, ◌∙◌}
use mathlib.Core.Bool.{Bool, true, false}
use mathlib.Core.List.{List, [], map}
use Prim.Native.Nat.{ℕ, ◌≤◌, min}
use native.Mathlib.Omega.{arith}
use lib.Dec.{ltb}
use lib.ListN.{length, length-map}
use borrow.Author.Tests.{ltb-true, ltb-false, lt-ltb, le-ltb}
use Rattle.text.specs.Text.{Read, got, refused, ◌>>=◌, map_read, is_space, past, whole_of}
use Rattle.text.proofs.Laws.{map-bind, map-inside}
use Rattle.tokens.specs.Number.{exact}
use Rattle.tokens.specs.Cut.{cut}
use Rattle.gradient.specs.declared.Side.TheVariants as S
use Rattle.gradient.specs.declared.Direction.{Direction}
use Rattle.gradient.specs.declared.Direction.TheVariants as D
use Rattle.gradient.specs.declared.Shape.{Shape}
use Rattle.gradient.specs.declared.Shape.TheVariants as Sh
use Rattle.gradient.specs.declared.Stop.{Stop}
use Rattle.gradient.specs.Lists.{all}
use Rattle.gradient.specs.Blank.{blank_gradient}
use Rattle.gradient.specs.Range.{shape_in, stop_in}
use Rattle.directions.specs.Direction.{direction_of}
use Rattle.directions.proofs.Cut.{cut_direction, direction-cut}
use Rattle.circles.specs.Circle.{radial_of}
use Rattle.circles.proofs.Cut.{cut_shape, radial-cut, shape-in-cut, shape-kept}
use Rattle.stoplist.specs.Stops.{items_of, two_stops_of}
use Rattle.stoplist.specs.View.{list_of}
use Rattle.text.proofs.WholeTexts.{whole-map}
use Rattle.stoplist.proofs.Cut.{cut_stop, two-stops-cut, all-in-cut, stops-kept}
use Rattle.reader.specs.declared.Kind.{Kind}
use Rattle.reader.specs.declared.Kind.TheVariants as K
use Rattle.reader.specs.declared.Draft.{Draft}
use Rattle.reader.specs.Written.{Written, written}
use Rattle.reader.specs.Text.{first, others, with_stops, by_direction, linear_of, circular_of, of_kind, kind_of, body_of, function_of, gradient_of}
use Rattle.std.specs.Prelude.{Option, Some, None}
use Rattle.replies.specs.Replies.{malformed}
use Rattle.reader.specs.Reading.{Reading, written_reply, grammar_reply, gradient_in, value_of, answered, read_reply, read_of}
use Rattle.reader.specs.View.{draft_of, draft_reply, concluded}

abbrev pub cut_written : Written → Written
cut_written w = written (cut_shape w.shape) w.repeating (map cut_stop w.stops)

-- ---- the same pieces are read, with their numbers cut off
module _ (r : Bool) where
  stops-cut : (shape : Shape) (items : List (List ℕ)) → with_stops cut (cut_shape shape) r items ≡ map_read cut_written (with_stops exact shape r items)
  unfolding with_stops
  stops-cut shape items =
      ap (λ (q : Read (List Stop)). q >>= λ ss _. got (written (cut_shape shape) r ss) []) (two-stops-cut items)
      ∙ sym (map-bind cut_written (map cut_stop) (λ ss _. got (written shape r ss) []) (λ ss _. got (written (cut_shape shape) r ss) []) (λ ss l. refl) (two_stops_of exact items))

  direction-by : (d : Read Direction) (items : List (List ℕ)) → by_direction cut (map_read cut_direction d) r items ≡ map_read cut_written (by_direction exact d r items)
  direction-by (got d k) items = stops-cut (Sh.Linear d) (others items)
  direction-by refused items = stops-cut (Sh.Linear (D.Side S.Bottom)) items

  linear-cut : (l : List ℕ) → linear_of cut r l ≡ map_read cut_written (linear_of exact r l)
  unfolding linear_of
  linear-cut l =
      ap (λ (d : Read Direction). by_direction cut d r (items_of l)) (whole-map cut_direction (direction_of exact) (direction_of cut) direction-cut (first (items_of l)))
      ∙ direction-by (whole_of (direction_of exact) (first (items_of l))) (items_of l)

  circular-cut : (l : List ℕ) → circular_of cut r l ≡ map_read cut_written (circular_of exact r l)
  unfolding circular_of
  circular-cut l =
      ap (λ (q : Read Shape). q >>= λ shape _. with_stops cut shape r (others (items_of l))) (whole-map cut_shape (radial_of exact) (radial_of cut) radial-cut (first (items_of l)))
      ∙ sym (map-bind cut_written cut_shape (λ shape _. with_stops exact shape r (others (items_of l))) (λ shape _. with_stops cut shape r (others (items_of l)))
      (λ shape _. sym (stops-cut shape (others (items_of l)))) (whole_of (radial_of exact) (first (items_of l))))

kind-cut : (kind : Kind) (body : List ℕ) → of_kind cut kind body ≡ map_read cut_written (of_kind exact kind body)
kind-cut (K.Linear r) body = linear-cut r body
kind-cut (K.Radial r) body = circular-cut r body

function-cut : (l : List ℕ) → function_of cut l ≡ map_read cut_written (function_of exact l)
unfolding function_of
function-cut l =
    sym (map-inside cut_written (λ kind k. body_of k >>= λ body _. of_kind exact kind body) (λ kind k. body_of k >>= λ body _. of_kind cut kind body)
    (λ kind k. map-inside cut_written (λ body _. of_kind exact kind body) (λ body _. of_kind cut kind body) (λ body _. sym (kind-cut kind body)) (body_of k)) (kind_of l))

-- ---- and judged alike
count-16 : (n : ℕ) → ltb 16 (min n 17) ≡ ltb 16 n
count-16 n = go (ltb 16 n) refl
  where
    go : (t : Bool) → ltb 16 n ≡ t → ltb 16 (min n 17) ≡ t
    go true e = let h = ltb-true 16 n e in lt-ltb 16 (min n 17) (omega arith)
    go false e = let h = ltb-false 16 n e in le-ltb 16 (min n 17) (omega arith)

-- what the code answers to a draft, or to none
abbrev pub answer : Option Draft → Reading
answer (Some d) = concluded d
answer None = answered malformed blank_gradient

judged : (w : Written) (k : List ℕ) → answer (draft_of (got (cut_written w) k)) ≡ answered (written_reply w) (value_of w)
unfolding draft_reply list_of
judged w k = go (shape_in w.shape) (all stop_in w.stops) (ltb 16 (length w.stops)) refl refl refl
  where
    many : ltb 16 (min (length (map cut_stop w.stops)) 17) ≡ ltb 16 (length w.stops)
    many = ap (λ (n : ℕ). ltb 16 (min n 17)) (length-map w.stops cut_stop) ∙ count-16 (length w.stops)

    go : (a b t : Bool) → shape_in w.shape ≡ a → all stop_in w.stops ≡ b → ltb 16 (length w.stops) ≡ t
        → answer (draft_of (got (cut_written w) k)) ≡ answered (written_reply w) (value_of w)
    go false b t p q r = rw (shape-in-cut w.shape, p)
    go true false t p q r = rw (shape-in-cut w.shape, p, all-in-cut w.stops, q)
    go true true true p q r = rw (shape-in-cut w.shape, p, all-in-cut w.stops, q, many, r)
    go true true false p q r =
        let n : min (length w.stops) 17 ≡ length w.stops = let h = ltb-false 16 (length w.stops) r in omega arith in
        rw (shape-kept w.shape p, stops-kept w.stops q, p, q, count-16 (length w.stops), r, n)

pub read_is : (s : List ℕ) → length s ≤ 1024 → answer (draft_of (gradient_of cut s)) ≡ read_of s
unfolding read_of read_reply draft_reply
read_is s h = rw (le-ltb 1024 (length s) h, function-cut (past is_space s)) (go (function_of exact (past is_space s)))
  where
    none : answer (draft_of refused) ≡ answered 4 blank_gradient
    none = refl

    go : (r : Read Written) → answer (draft_of (map_read cut_written r)) ≡ answered (grammar_reply r) (gradient_in r)
    go (got w k) = judged w k
    go refused = none
