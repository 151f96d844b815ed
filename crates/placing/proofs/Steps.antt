-- One turn of each step, on spots as the code holds them.
-- Assumes nothing.
use mathlib.Core.Path.{◌≡◌, refl, sym, ap, ap₂, ◌∙◌, subst}
use mathlib.Core.Bool.{Bool, true, false}
use mathlib.Core.List.{List, [], ◌∷◌, ◌++◌, map, append-nil}
use Prim.Native.Nat.{ℕ, zero, suc, ◌+◌, ◌-◌, ◌≤◌, ◌<◌, max}
use native.Mathlib.Numerals.{add-one}
use native.Mathlib.Omega.{arith}
use lib.Dec.{leb}
use lib.IntN.{ℤ, pos}
use lib.ListN.{length, get_or, set, take, drop, drop_of_length-le, length-drop}
use lib.Seq.{drop-set-lt, take_all}
use Rattle.std.specs.Prelude.{Option, Some, None}
use lib.Signed.{le_z}
use borrow.Author.Tests.{leb-true, leb-false}
use Rattle.numbers.specs.Biased.{bias, unbiased}
use Rattle.numbers.proofs.Integers.{diff-eq, diff-pos, biased-order}
use Rattle.placing.specs.Spot.{Spot, unplaced, at}
use Rattle.placing.specs.Fixup.{or_at, first_at, last_at, ends_placed, maxℤ, raised_from, next, run, between, spaced_from}
use Rattle.placing.specs.Represented.{spot, Ready, Follows}
use Rattle.placing.proofs.Scan.{map_at, grown}

-- ---- (a), on the list by index
first-set : (z : ℕ) (ps : List (Option ℕ)) (u : Option ℕ) → 0 < length ps → spot u ≡ or_at (unbiased z) (spot (get_or ps 0 None))
    → map spot (set ps 0 u) ≡ first_at (unbiased z) (map spot ps)
unfolding first_at
first-set z [] u h e = absurd (omega arith)
first-set z (p ∷ ps) u h e = ap (λ (s : Spot). s ∷ map spot ps) e

last_set : (z : ℕ) (ps : List (Option ℕ)) (u : Option ℕ) (k : ℕ) → k + 1 ≡ length ps → spot u ≡ or_at (unbiased z) (spot (get_or ps k None))
    → map spot (set ps k u) ≡ last_at (unbiased z) (map spot ps)
unfolding last_at
last_set z [] u k h e = absurd (omega arith)
last_set z (p ∷ []) u zero h e = ap (λ (s : Spot). s ∷ []) e
last_set z (p ∷ []) u (suc k) h e = absurd (omega arith)
last_set z (p ∷ q ∷ ps) u zero h e = absurd (omega arith)
last_set z (p ∷ q ∷ ps) u (suc k) h e = ap (λ (l : List Spot). spot p ∷ l) (last_set z (q ∷ ps) u k (omega arith) e)

pub ends_set : (line : ℕ) (ps : List (Option ℕ)) (u v : Option ℕ) (k : ℕ) → 0 < length ps → k + 1 ≡ length (set ps 0 u)
    → spot u ≡ or_at (unbiased 33554432) (spot (get_or ps 0 None)) → spot v ≡ or_at (unbiased (line + 33554432)) (spot (get_or (set ps 0 u) k None))
    → map spot (set (set ps 0 u) k v) ≡ ends_placed line (map spot ps)
ends_set line ps u v k h h' e f =
    last_set (line + 33554432) (set ps 0 u) v k h' f
    ∙ ap (λ (z : ℤ). last_at z (map spot (set ps 0 u))) (at-line line)
    ∙ ap (last_at (pos line)) (first-set 33554432 ps u h e)
  where
    at-line : (n : ℕ) → unbiased (n + 33554432) ≡ pos n
    at-line n = diff-eq (n + bias) bias n 0 (omega arith) ∙ sym (diff-pos n)

-- ---- (b)
biased-max : (a b : ℕ) → maxℤ (unbiased a) (unbiased b) ≡ unbiased (max a b)
biased-max a b = go (leb a b) refl
  where
    go : (t : Bool) → leb a b ≡ t → maxℤ (unbiased a) (unbiased b) ≡ unbiased (max a b)
    go true e =
        let m : b ≡ max a b = omega (arith, leb-true a b e) in
        rw (biased-order a b bias, e) (ap unbiased m)
    go false e =
        let m : a ≡ max a b = omega (arith, leb-false a b e) in
        rw (biased-order a b bias, e) (ap unbiased m)

pub raise-placed : (g u : ℕ) (l : List Spot)
    → at (unbiased (max g u)) ∷ raised_from (at (unbiased (max g u))) l ≡ raised_from (at (unbiased g)) (at (unbiased u) ∷ l)
unfolding raised_from
raise-placed g u l = ap (λ (z : ℤ). at z ∷ raised_from (at z) l) (sym (biased-max g u))

pub raise-unplaced : (g : Spot) (l : List Spot) → unplaced ∷ raised_from g l ≡ raised_from g (unplaced ∷ l)
unfolding raised_from
raise-unplaced g l = refl

-- no position is below the least biased one
pub raise-start : (ps : List (Option ℕ)) → raised_from (at (unbiased 0)) (map spot ps) ≡ raised_from unplaced (map spot ps)
unfolding raised_from
raise-start [] = refl
raise-start (None ∷ ps) = ap (λ (l : List Spot). unplaced ∷ l) (raise-start ps)
raise-start (Some u ∷ ps) =
    let m : max 0 u ≡ u = omega arith in
    ap (λ (z : ℤ). at z ∷ raised_from (at z) (map spot ps)) (biased-max 0 u ∙ ap unbiased m)

pub raised-nil : (g : Spot) → raised_from g [] ≡ []
unfolding raised_from
raised-nil g = refl

-- ---- (c)
pub spaced-nil : (A : ℤ) (m : ℕ) → spaced_from A m [] ≡ []
unfolding spaced_from
spaced-nil A m = refl

pub run-bound : (l : List (Option ℕ)) → run (map spot l) ≤ length l
unfolding run
run-bound [] = omega arith
run-bound (None ∷ l) = let k = run-bound l in omega arith
run-bound (Some u ∷ l) = omega arith

-- at an unplaced stop, at a placed one, at the end
module _ (ps : List (Option ℕ)) (i : ℕ) where
  abbrev rest : List Spot
  rest = map spot (drop (i + 1) ps)

  module _ (h : i < length ps) where
    here : (p : Option ℕ) → get_or ps i None ≡ p → map spot (drop i ps) ≡ spot p ∷ rest
    here p e = map_at spot ps i None h ∙ ap (λ (o : Option ℕ). spot o ∷ rest) e

    module _ (e : get_or ps i None ≡ None) where
      pub next-on : next rest ≡ next (map spot (drop i ps))
      unfolding next
      next-on = rw (here None e)

      pub run_on : run rest + 1 ≡ run (map spot (drop i ps))
      unfolding run
      run_on = rw (here None e) (add-one (run rest))

      pub unplaced-ready : (A : ℤ) → Ready A (map spot (drop i ps)) → (le_z A (next (map spot (drop i ps))) ≡ true) × Ready A rest
      unfolding Ready
      unplaced-ready A r = let k = subst (Ready A) (here None e) r in (ap (le_z A) (sym next-on) ∙ k.0, k.1)

      pub spaced-unplaced : (A : ℤ) (m : ℕ)
          → between A (next (map spot (drop i ps))) m (m + run (map spot (drop i ps))) ∷ spaced_from A (m + 1) rest ≡ spaced_from A m (map spot (drop i ps))
      unfolding spaced_from
      spaced-unplaced A m =
          let k : m + run (map spot (drop i ps)) ≡ m + 1 + run rest = omega (arith, run_on) in
          ap₂ (λ (z : ℤ) (n : ℕ). between A z m n ∷ spaced_from A (m + 1) rest) (sym next-on) k ∙ sym (ap (spaced_from A m) (here None e))

    module _ (u : ℕ) (e : get_or ps i None ≡ Some u) where
      pub next_here : unbiased u ≡ next (map spot (drop i ps))
      unfolding next
      next_here = rw (here (Some u) e)

      pub run-here : run (map spot (drop i ps)) ≡ 0
      unfolding run
      run-here = rw (here (Some u) e)

      pub placed-ready : (A : ℤ) → Ready A (map spot (drop i ps)) → Ready (unbiased u) rest
      unfolding Ready
      placed-ready A r = subst (Ready A) (here (Some u) e) r

      pub spaced-placed : (A : ℤ) (m : ℕ) → unbiased u ∷ spaced_from (unbiased u) 1 rest ≡ spaced_from A m (map spot (drop i ps))
      unfolding spaced_from
      spaced-placed A m = sym (ap (spaced_from A m) (here (Some u) e))

  pub next-none : length ps ≤ i → unbiased 33554432 ≡ next (map spot (drop i ps))
  unfolding next
  next-none h = rw (drop_of_length-le ps h)

  pub run_none : length ps ≤ i → run (map spot (drop i ps)) ≡ 0
  unfolding run
  run_none h = rw (drop_of_length-le ps h)

-- a part of the way is computed where the two ends are in order
pub not-above : (a b : ℕ) (z : ℤ) → unbiased b ≡ z → le_z (unbiased a) z ≡ true → a ≤ b
not-above a b z e h = leb-true a b (sym (biased-order a b bias) ∙ ap (le_z (unbiased a)) e ∙ h)

-- what is cut off at stop i is all from there on
pub follows-rest : (ps : List (Option ℕ)) (i to n : ℕ) → Follows (take (length ps - i) (drop i ps)) to n → Follows (drop i ps) to n
follows-rest ps i to n f =
    subst (λ (l : List (Option ℕ)). Follows l to n) (take_all (length ps - i) (drop i ps) (omega (arith, length-drop i ps))) f

-- ---- one turn of the loops, at stop i; zs is what is to come out
module _ {zs : List Spot} (ps : List (Option ℕ)) (i g : ℕ)
    (so-far : map spot (take i ps) ++ raised_from (at (unbiased g)) (map spot (drop i ps)) ≡ zs) where
  pub raised-placed : (u : ℕ) → i < length ps → get_or ps i None ≡ Some u
      → map spot (take (i + 1) (set ps i (Some (max g u)))) ++ raised_from (at (unbiased (max g u))) (map spot (drop (i + 1) (set ps i (Some (max g u))))) ≡ zs
  raised-placed u h e =
      let G : Spot = at (unbiased g) in
      let G' : Spot = at (unbiased (max g u)) in
      let same : drop (i + 1) (set ps i (Some (max g u))) ≡ drop (i + 1) ps = drop-set-lt (i + 1) ps i (Some (max g u)) (omega arith) in
      let step : G' ∷ raised_from G' (rest ps i) ≡ raised_from G (map spot (drop i ps)) =
      raise-placed g u (rest ps i) ∙ sym (ap (raised_from G) (here ps i h (Some u) e)) in
      rw same (grown spot ps i (Some (max g u)) (raised_from G (map spot (drop i ps))) (raised_from G' (rest ps i)) h step ∙ so-far)

  pub raised-unplaced : i < length ps → get_or ps i None ≡ None
      → map spot (take (i + 1) (set ps i (get_or ps i None))) ++ raised_from (at (unbiased g)) (map spot (drop (i + 1) (set ps i (get_or ps i None)))) ≡ zs
  raised-unplaced h e =
      let G : Spot = at (unbiased g) in
      let o : Option ℕ = get_or ps i None in
      let same : drop (i + 1) (set ps i o) ≡ drop (i + 1) ps = drop-set-lt (i + 1) ps i o (omega arith) in
      let step : spot o ∷ raised_from G (rest ps i) ≡ raised_from G (map spot (drop i ps)) =
      ap (λ (p : Option ℕ). spot p ∷ raised_from G (rest ps i)) e ∙ raise-unplaced G (rest ps i) ∙ sym (ap (raised_from G) (here ps i h None e)) in
      rw same (grown spot ps i o (raised_from G (map spot (drop i ps))) (raised_from G (rest ps i)) h step ∙ so-far)

  pub raised-all : length ps ≤ i → map spot ps ≡ zs
  raised-all h =
      let end : map spot (take i ps) ++ raised_from (at (unbiased g)) (map spot (drop i ps)) ≡ map spot ps =
      rw (take_all i ps h, drop_of_length-le ps h, raised-nil (at (unbiased g))) (append-nil (map spot ps)) in
      sym end ∙ so-far

module _ {zs : List ℤ} (ps : List (Option ℕ)) (out : List ℕ) (i a m : ℕ)
    (so-far : map unbiased (take i out) ++ spaced_from (unbiased a) m (map spot (drop i ps)) ≡ zs) where
  pub put-placed : (u : ℕ) → i < length ps → i < length out → get_or ps i None ≡ Some u
      → map unbiased (take (i + 1) (set out i u)) ++ spaced_from (unbiased u) 1 (map spot (drop (i + 1) ps)) ≡ zs
  put-placed u h h' e =
      grown unbiased out i u (spaced_from (unbiased a) m (map spot (drop i ps))) (spaced_from (unbiased u) 1 (rest ps i)) h' (spaced-placed ps i h u e (unbiased a) m)
      ∙ so-far

  pub put-between : (b n v : ℕ) → i < length ps → i < length out → get_or ps i None ≡ None → Follows (drop i ps) b n
      → unbiased v ≡ between (unbiased a) (unbiased b) m (m + n)
      → map unbiased (take (i + 1) (set out i v)) ++ spaced_from (unbiased a) (m + 1) (map spot (drop (i + 1) ps)) ≡ zs
  put-between b n v h h' e f p =
      let A : ℤ = unbiased a in
      let step : unbiased v ∷ spaced_from A (m + 1) (rest ps i) ≡ spaced_from A m (map spot (drop i ps)) =
      ap (λ (z : ℤ). z ∷ spaced_from A (m + 1) (rest ps i)) (p ∙ ap₂ (λ (z : ℤ) (k : ℕ). between A z m (m + k)) f.position f.stops)
      ∙ spaced-unplaced ps i h e A m in
      grown unbiased out i v (spaced_from A m (map spot (drop i ps))) (spaced_from A (m + 1) (rest ps i)) h' step ∙ so-far

  pub put-all : i ≡ length ps → map unbiased (take (length ps) out) ≡ zs
  put-all e =
      let h : length ps ≤ i = omega (arith, e) in
      let end : map unbiased (take i out) ++ spaced_from (unbiased a) m (map spot (drop i ps)) ≡ map unbiased (take i out) =
      rw (drop_of_length-le ps h, spaced-nil (unbiased a) m) (append-nil (map unbiased (take i out))) in
      ap (λ (n : ℕ). map unbiased (take n out)) (sym e) ∙ sym end ∙ so-far
