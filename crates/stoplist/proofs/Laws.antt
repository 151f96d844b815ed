-- Laws of whole texts, of the items between commas, and of lists of stops.
-- Assumes nothing.
use mathlib.Core.Path.{◌≡◌, refl, sym, ap, ◌∙◌}
use mathlib.Core.Bool.{Bool, true, false, cond, not, ◌||◌, ◌&&◌, and-true}
use mathlib.Core.List.{List, [], ◌∷◌, ◌++◌, append-nil}
use Prim.Native.Nat.{ℕ, suc, ◌+◌, ◌-◌, ◌≤◌, ◌<◌, min}
use native.Mathlib.Decide.{dec_lt}
use native.Mathlib.Omega.{arith}
use lib.Dec.{eqb}
use lib.IntN.{ℤ}
use lib.ListN.{length, take, drop, set, length-append}
use lib.Seq.{take-append-le, take_all, append_snoc, set-append_seam}
use borrow.Author.Tests.{lt-ltb, le-ltb}
use Rattle.text.specs.Text.{is, run, past, Read, got, refused, map_read, whole_of}
use Rattle.text.proofs.Laws.{map_same}
use Rattle.gradient.specs.Lists.{all}
use Rattle.gradient.specs.Range.{stop_in}
use Rattle.gradient.specs.declared.Stop.{Stop}
use Rattle.stoplist.specs.Stops.{onto, items_of, stop_of, stops_of, two_stops_of}
use Rattle.stoplist.specs.View.{places, list_of, blank_list, added, list_in, not_comma}
use Rattle.stoplist.specs.declared.StopList.{StopList}
use Rattle.text.specs.View.{SplitsRun}
use Rattle.std.specs.Prelude.{Some, None}

-- ---- the items: the first one, and what follows it, nothing or a comma and the items after it
after : List ℕ → List (List ℕ)
after [] = []
after (b ∷ l) = items_of l

items-step : (l : List ℕ) → items_of l ≡ run not_comma l ∷ after (past not_comma l)
unfolding items_of run past not_comma after
items-step [] = refl
items-step (b ∷ l) = go (is "," b) (items-step l)
  where
    go : (t : Bool) → items_of l ≡ run not_comma l ∷ after (past not_comma l)
        → cond t ([] ∷ items_of l) (onto b (items_of l)) ≡ cond (not t) (b ∷ run not_comma l) [] ∷ after (cond (not t) (past not_comma l) (b ∷ l))
    go true h = refl
    go false h = rw h

after-cons : (r : List ℕ) → 1 ≤ length r → after r ≡ items_of (take (length r - 1) (drop 1 r))
unfolding after
after-cons [] h = absurd (omega (arith, h))
after-cons (b ∷ r) h = let n : length (b ∷ r) - 1 ≡ length r = omega arith in rw n (ap items_of (sym (take_all (length r) r (omega arith))))

after-nil : (r : List ℕ) → length r < 1 → after r ≡ []
unfolding after
after-nil [] h = refl
after-nil (b ∷ r) h = absurd (omega (arith, h))

-- the code's test of a byte
pub comma_test : (b : ℕ) → not (eqb b 44) ≡ not_comma b
unfolding not_comma
comma_test b = refl

-- what the code finds: the first item, and the text after its comma, or the end
module _ {l item rest : List ℕ} (h : SplitsRun not_comma l item rest) where
  pub first-more : 1 ≤ length rest → items_of l ≡ item ∷ items_of (take (length rest - 1) (drop 1 rest))
  first-more k = rw (items-step l, ← h.run, ← h.past, after-cons rest k)

  pub first-last : length rest < 1 → items_of l ≡ item ∷ []
  first-last k = rw (items-step l, ← h.run, ← h.past, after-nil rest k)

-- ---- one stop more, in the list and in what the list holds
all_more : (ss : List Stop) (s : Stop) → (not (all stop_in ss) || not (stop_in s)) ≡ not (all stop_in (ss ++ s ∷ []))
all_more [] s = ap not (sym (and-true (stop_in s)))
all_more (x ∷ ss) s = go (stop_in x) (all_more ss s)
  where
    go : (t : Bool) → (not (all stop_in ss) || not (stop_in s)) ≡ not (all stop_in (ss ++ s ∷ [])) → (not (t && all stop_in ss) || not (stop_in s)) ≡ not (t && all stop_in (ss ++ s ∷ []))
    go true h = h
    go false h = refl

module _ (ss : List Stop) (s : Stop) where
  one-longer : length (ss ++ s ∷ []) ≡ length ss + 1
  one-longer = length-append ss (s ∷ [])

  places-here : length ss < 16 → set (places ss) (length ss) s ≡ places (ss ++ s ∷ [])
  places-here h =
      let n : 16 - length ss ≡ suc (16 - length (ss ++ s ∷ [])) = omega (arith, one-longer) in
      rw (take_all 16 ss (omega arith), take_all 16 (ss ++ s ∷ []) (omega (arith, one-longer)), n, set-append_seam, ← append_snoc ss s)

  places-full : 16 ≤ length ss → places ss ≡ places (ss ++ s ∷ [])
  places-full h =
      let n : 16 - length ss ≡ 0 = omega arith in
      let m : 16 - length (ss ++ s ∷ []) ≡ 0 = omega (arith, one-longer) in
      rw (take-append-le 16 ss (s ∷ []), n, m)

  pub list-more : added (list_of ss) s ≡ list_of (ss ++ s ∷ [])
  unfolding added list_of
  list-more = go (dec_lt (length ss) 16)
    where
      go : Dec (length ss < 16) → added (list_of ss) s ≡ list_of (ss ++ s ∷ [])
      go (yes h) =
          let n : min (length ss) 17 ≡ length ss = omega arith in
          let m : min (length (ss ++ s ∷ [])) 17 ≡ length ss + 1 = omega (arith, one-longer) in
          rw (n, lt-ltb (length ss) 16 h, places-here h, all_more ss s, m)
      go (no f) =
          let m : min (length (ss ++ s ∷ [])) 17 ≡ 17 = omega (arith, one-longer) in
          rw (le-ltb (min (length ss) 17) 16 (omega arith), places-full (omega arith), all_more ss s, m)

-- ---- the loop over items: before those left its list t holds the stops done, and with what the items left give they are what all the items give
pub record Done (keep : ℤ → ℤ) (items left : List (List ℕ)) (t : StopList) : Type 0 where
  pub done : List Stop
  pub biased : t ≡ list_of done
  pub gives : stops_of keep items ≡ map_read (λ ss. done ++ ss) (stops_of keep left)

module _ (keep : ℤ → ℤ) (items : List (List ℕ)) where
  pub done_none : {t : StopList} → t ≡ blank_list → Done keep items items t
  unfolding list_of
  done_none e = record { done = []; biased = e; gives = sym (map_same (λ ss. [] ++ ss) (λ ss. refl) (stops_of keep items)) }

  module _ {left : List (List ℕ)} {t : StopList} (w : Done keep items left t) {i : List ℕ} {more : List (List ℕ)} (m : left ≡ i ∷ more) where
    pub done_more : {a : Stop} {k : List ℕ} {t' : StopList} → got a k ≡ whole_of (stop_of keep) i → t' ≡ added t a → Done keep items more t'
    unfolding stops_of
    done_more {a} {k} e q = record {
      done = w.done ++ a ∷ [];
      biased = q ∙ rw w.biased (list-more w.done a);
      gives = rw (w.gives, m, ← e) (go (stops_of keep more));
    }
      where
        go : (x : Read (List Stop)) → map_read (λ ss. w.done ++ ss) (map_read (λ ss. a ∷ ss) x) ≡ map_read (λ ss. w.done ++ a ∷ [] ++ ss) x
        go (got ss l) = ap (λ (y : List Stop). got y l) (sym (append_snoc w.done a ss))
        go refused = refl

    pub done_refused : refused ≡ whole_of (stop_of keep) i → None ≡ list_in (two_stops_of keep items)
    unfolding stops_of two_stops_of
    done_refused e = rw (w.gives, m, ← e)

  module _ {left : List (List ℕ)} {t : StopList} (w : Done keep items left t) (m : left ≡ []) where
    all_done : stops_of keep items ≡ got w.done []
    unfolding stops_of
    all_done = rw (w.gives, m) (ap (λ (ss : List Stop). got ss []) (append-nil w.done))

    count-done : t.count ≡ min (length w.done) 17
    unfolding list_of
    count-done = rw w.biased

    pub done-few : t.count < 2 → None ≡ list_in (two_stops_of keep items)
    unfolding two_stops_of
    done-few k = rw (all_done, lt-ltb (length w.done) 2 (omega (arith, count-done)))

    pub done-enough : 2 ≤ t.count → Some t ≡ list_in (two_stops_of keep items)
    unfolding two_stops_of
    done-enough k = rw (all_done, le-ltb (length w.done) 2 (omega (arith, count-done)), w.biased)
