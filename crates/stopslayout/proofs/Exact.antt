-- Placed stops that their check accepts and their layout determine each other.
-- Assumes nothing.
use mathlib.Core.Path.{◌≡◌, refl, ◌∙◌}
use mathlib.Core.Bool.{true, and-eq-true_iff}
use mathlib.Core.List.{List, [], ◌∷◌}
use Prim.Native.Nat.{ℕ, ◌+◌, ◌-◌, ◌*◌, ◌^◌, ◌<◌}
use native.Mathlib.Nat.{add-zero}
use native.Mathlib.Decide.{dec_lt}
use native.Mathlib.Omega.{arith}
use lib.IntN.{nat_abs}
use lib.ListN.{length, get_or, drop, length-drop}
use lib.Seq.{get_or-append-add, get_or-drop}
use mir.Syntax.{w32}
use mir.Val.{of_z}
use borrow.Author.Tests.{eqb-true, not-false}
use Rattle.replies.proofs.Laws.{or_else-zero, given-zero}
use Rattle.gradient.specs.Blank.{is_clear}
use Rattle.gradient.proofs.Lists.{all-at}
use Rattle.stops.specs.Blank.{blank_placed, is_blank_placed}
use Rattle.stops.specs.Check.{blank_past_placed, check_placed_of, AcceptedPlaced}
use Rattle.stops.specs.declared.PlacedStop.{PlacedStop}
use Rattle.stops.specs.declared.PlacedStops.{PlacedStops}
use Rattle.stops.proofs.Laws.{accepted-placed}
use Rattle.words.specs.Word.{word_at, each}
use Rattle.words.proofs.Each.{each-length, each_at}
use Rattle.words.proofs.UpTo.{up_to-all}
use Rattle.words.proofs.Equal.{equal-refl, equal-yes}
use Rattle.words.proofs.Back.{word_back, sized}
use Rattle.stopslayout.specs.Words.{count_bytes, stop_bytes, placed_layout_of}
use Rattle.stopslayout.specs.Taken.{placed_stop_at, placed_at, taken_stops_reply, taken_stops_of}

blank-at : (s : PlacedStop) → is_blank_placed s ≡ true → nat_abs s.position ≡ 0
unfolding is_blank_placed
blank-at s e = eqb-true _ _ ((and-eq-true_iff (is_clear s.color) _).0 e).1

module _ (p : PlacedStops) (full : length p.stops ≡ 16) where
  -- A layout has 132 bytes.
  pub layout-length : length (placed_layout_of p) ≡ 132
  unfolding placed_layout_of
  layout-length = omega (arith, each-length stop_bytes 8 (λ s. refl) p.stops)

  -- byte j of place i
  byte_at : (i j : ℕ) → i < 16 → j < 8 → get_or (placed_layout_of p) (4 + 8 * i + j) 0 ≡ get_or (stop_bytes (get_or p.stops i blank_placed)) j 0
  unfolding placed_layout_of
  byte_at i j h k =
      let e : 4 + 8 * i + j ≡ 4 + (8 * i + j) = omega arith in
      rw e (get_or-append-add (count_bytes p.count) (each stop_bytes p.stops) (8 * i + j) 0 ∙ each_at stop_bytes 8 (λ s. refl) p.stops i j blank_placed 0 (omega arith) k)

  word-at : (i : ℕ) → i < 16 → word_at (placed_layout_of p) (8 + 8 * i) ≡ of_z w32 (get_or p.stops i blank_placed).position
  word-at i h =
      let e₀ : 8 + 8 * i ≡ 4 + 8 * i + 4 = omega arith in
      let e₁ : 8 + 8 * i + 1 ≡ 4 + 8 * i + 5 = omega arith in
      let e₂ : 8 + 8 * i + 2 ≡ 4 + 8 * i + 6 = omega arith in
      let e₃ : 8 + 8 * i + 3 ≡ 4 + 8 * i + 7 = omega arith in
      rw (e₁, e₂, e₃, e₀, byte_at i 4 h (omega arith), byte_at i 5 h (omega arith), byte_at i 6 h (omega arith), byte_at i 7 h (omega arith))
      (word_back (of_z w32 (get_or p.stops i blank_placed).position ∷ []) 0 (omega arith))

  module _ (a : AcceptedPlaced p) where
    -- the position of a stop is in its range, that of a blank place is 0
    small : (i : ℕ) → i < 16 → nat_abs (get_or p.stops i blank_placed).position < 2 ^ 31
    unfolding blank_past_placed
    small i h = go (dec_lt i p.count)
      where
        go : Dec (i < p.count) → nat_abs (get_or p.stops i blank_placed).position < 2 ^ 31
        go (yes k) = omega (arith, a.in-range i k)
        go (no k) =
            let n : ℕ = i - p.count in
            let e : p.count + n ≡ i = omega arith in
            let b = all-at is_blank_placed (drop p.count p.stops) a.blank n blank_placed (omega (arith, length-drop p.count p.stops)) in
            omega (arith, blank-at (get_or p.stops i blank_placed) (rw (get_or-drop p.count p.stops n blank_placed, e) at b))

    stop-back : (i : ℕ) → i < 16 → placed_stop_at (placed_layout_of p) i ≡ get_or p.stops i blank_placed
    stop-back i h = rw (
      rw add-zero at (byte_at i 0 h (omega arith)),
      byte_at i 1 h (omega arith),
      byte_at i 2 h (omega arith),
      byte_at i 3 h (omega arith),
      word-at i h,
      sized _ (small i h),
    )

    count-back : get_or (placed_layout_of p) 0 0 ≡ p.count
    unfolding placed_layout_of
    count-back = omega (arith, a.fit)

    placed-back : placed_at (placed_layout_of p) ≡ p
    unfolding placed_at
    placed-back = rw (count-back, up_to-all 16 (placed_stop_at (placed_layout_of p)) p.stops blank_placed full stop-back)

-- The layout of placed stops that are accepted is taken, and gives them back.
pub taken_back : (p : PlacedStops) → length p.stops ≡ 16 → check_placed_of p ≡ 0 → taken_stops_of (placed_layout_of p) ≡ record { reply = 0; stops = p }
unfolding taken_stops_of taken_stops_reply
taken_back p full e = rw (placed-back p full (accepted-placed p e), equal-refl (placed_layout_of p), e)

-- What is taken is what the slice reads as.
pub taken-read : (s : List ℕ) → (taken_stops_of s).reply ≡ 0 → (taken_stops_of s).stops ≡ placed_at s
unfolding taken_stops_of
taken-read s e = rw e

-- A slice that is taken is the layout of what it gives, which is accepted.
pub taken-only : (s : List ℕ) → (taken_stops_of s).reply ≡ 0
    → (s ≡ placed_layout_of (taken_stops_of s).stops) × (check_placed_of (taken_stops_of s).stops ≡ 0)
unfolding taken_stops_of taken_stops_reply
taken-only s e =
    let k = or_else-zero _ _ e in
    (rw (taken-read s e) (equal-yes _ _ (not-false _ (given-zero _ _ k.0))), rw (taken-read s e) k.1)
