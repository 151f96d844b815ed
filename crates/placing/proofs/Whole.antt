-- The stops put beside their positions, one after the other, in an array whose other places are blank.
-- Assumes nothing.
use mathlib.Core.Path.{◌≡◌, refl, sym, ap, ◌∙◌}
use mathlib.Core.List.{List, [], ◌∷◌, ◌++◌, map, map-append}
use Prim.Native.Nat.{ℕ, zero, suc, ◌+◌, ◌-◌, ◌≤◌, ◌<◌}
use native.Mathlib.Numerals.{add-one}
use native.Mathlib.Omega.{arith}
use lib.IntN.{ℤ}
use lib.ListN.{length, take, get_or, set, replicate, length-map, length-append}
use lib.Seq.{take-suc, length-take-le, set_at, append_snoc}
use Rattle.numbers.specs.Biased.{unbiased}
use Rattle.gradient.specs.declared.Stop.{Stop}
use Rattle.gradient.specs.Blank.{blank_stop}
use Rattle.stops.specs.declared.PlacedStop.{PlacedStop}
use Rattle.stops.specs.Blank.{blank_placed}
use Rattle.placing.specs.Placed.{placed_at, at_positions, listed}

pub length_at : (l : List Stop) (zs : List ℤ) → length zs ≡ length l → length (at_positions l zs) ≡ length l
unfolding at_positions
length_at [] zs h = refl
length_at (s ∷ l) [] h = absurd (omega arith)
length_at (s ∷ l) (z ∷ zs) h = ap suc (length_at l zs (omega arith))

at_snoc : (l : List Stop) (zs : List ℤ) (s : Stop) (z : ℤ) → length zs ≡ length l
    → at_positions (l ++ (s ∷ [])) (zs ++ (z ∷ [])) ≡ at_positions l zs ++ (placed_at s z ∷ [])
unfolding at_positions
at_snoc [] [] s z h = refl
at_snoc [] (y ∷ zs) s z h = absurd (omega arith)
at_snoc (t ∷ l) [] s z h = absurd (omega arith)
at_snoc (t ∷ l) (y ∷ zs) s z h = ap (λ (r : List PlacedStop). placed_at t y ∷ r) (at_snoc l zs s z (omega arith))

blank-on : (k : ℕ) → 0 < k → replicate k blank_placed ≡ blank_placed ∷ replicate (k - 1) blank_placed
blank-on zero h = absurd (omega arith)
blank-on (suc k) h = let e : k ≡ suc k - 1 = omega arith in ap (λ (n : ℕ). blank_placed ∷ replicate n blank_placed) e

-- the first blank place is taken
fill : (xs : List PlacedStop) (v : PlacedStop) (i : ℕ) → length xs ≡ i → i < 16 → set (listed xs).stops i v ≡ (listed (xs ++ (v ∷ []))).stops
fill xs v i e h =
    let k : ℕ = 16 - length xs in
    let m : k - 1 ≡ 16 - length (xs ++ (v ∷ [])) = omega (arith, length-append xs (v ∷ [])) in
    ap (λ (ys : List PlacedStop). set (xs ++ ys) i v) (blank-on k (omega arith))
    ∙ set_at xs blank_placed (replicate (k - 1) blank_placed) v i e
    ∙ sym (append_snoc xs v (replicate (k - 1) blank_placed))
    ∙ ap (λ (n : ℕ). xs ++ (v ∷ []) ++ replicate n blank_placed) m

-- a loop at index i: the stops before i are at their positions
module _ (l : List Stop) (us : List ℕ) where
  abbrev pub up_to : ℕ → List PlacedStop
  up_to i = at_positions (take i l) (map unbiased (take i us))

  module _ (i : ℕ) (h : i ≤ length l) (h' : i ≤ length us) where
    same-lengths : length (map unbiased (take i us)) ≡ length (take i l)
    same-lengths = length-map (take i us) unbiased ∙ length-take-le i us h' ∙ sym (length-take-le i l h)

    pub length-up-to : length (up_to i) ≡ i
    length-up-to = length_at (take i l) (map unbiased (take i us)) same-lengths ∙ length-take-le i l h

  pub attach-step : (out : List PlacedStop) (i : ℕ) → i < length l → i < length us → i < 16 → out ≡ (listed (up_to i)).stops
      → set out i (placed_at (get_or l i blank_stop) (unbiased (get_or us i 0))) ≡ (listed (up_to (i + 1))).stops
  attach-step out i h h' k e =
      let s : Stop = get_or l i blank_stop in
      let z : ℤ = unbiased (get_or us i 0) in
      let more : up_to i ++ (placed_at s z ∷ []) ≡ up_to (i + 1) =
      sym (at_snoc (take i l) (map unbiased (take i us)) s z (same-lengths i (omega arith) (omega arith)))
      ∙ rw (add-one i, take-suc l i blank_stop h, take-suc us i 0 h', map-append unbiased (take i us) (get_or us i 0 ∷ [])) in
      rw (e, fill (up_to i) (placed_at s z) i (length-up-to i (omega arith) (omega arith)) k, more)
