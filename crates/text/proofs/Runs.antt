-- A text split where a run of a class ends. Assumes nothing.
use mathlib.Core.Path.{◌≡◌, refl, sym, ap, ◌∙◌}
use mathlib.Core.Bool.{Bool, true, false, cond}
use mathlib.Core.List.{List, [], ◌∷◌}
use Prim.Native.Nat.{ℕ, zero, suc, ◌+◌, ◌*◌, ◌/◌, ◌≤◌, ◌<◌}
use native.Mathlib.Omega.{arith}
use lib.Dec.{ltb, eqb}
use lib.ListN.{length, take, drop, get_or}
use Rattle.std.specs.Simd.{first_chunks}
use Rattle.std.proofs.lemmas.List.{length-take-le, take-append-drop, drop-drop}
use Rattle.std.proofs.lemmas.List.Folds.{prefix_len-append}
use Rattle.std.proofs.lemmas.List.Sums.{prefix_len-le-length}
use Rattle.std.proofs.Common.{length-drop}
use Rattle.std.specs.List.{prefix_len}
use borrow.Author.Tests.{ltb-false, eq-eqb, ne_eqb}
use Rattle.std.specs.Prelude.{Some, None, unwrap_or}
use Rattle.text.specs.Text.{run, past}
use Rattle.text.specs.View.{SplitsRun}

more : (n : ℕ) → 1 + n ≡ suc n
more n = omega arith

-- where the end is found, or else is the length
pub found_at : (e n : ℕ) → e ≤ n → unwrap_or (cond (ltb e n) (Some e) None) n ≡ e
found_at e n h = go (ltb e n) refl
  where
    go : (t : Bool) → ltb e n ≡ t → unwrap_or (cond t (Some e) None) n ≡ e
    go true k = refl
    go false k = let m : n ≤ e = ltb-false e n k in omega arith

-- the bytes of a class that l begins with, found by a test that answers as the class does
module _ (p q : ℕ → Bool) (same : (b : ℕ) → q b ≡ p b) where
  pub same_length : (l : List ℕ) → prefix_len q l ≡ prefix_len p l
  same_length [] = refl
  same_length (b ∷ l) = rw (same b, same_length l)

  pub splits_run : (l : List ℕ) → SplitsRun p l (take (prefix_len q l) l) (drop (prefix_len q l) l)
  unfolding run past
  splits_run [] = record { run = refl; past = refl }
  splits_run (b ∷ l) = rw (same b) (go (p b) refl (splits_run l))
    where
      go : (t : Bool) → p b ≡ t → SplitsRun p l (take (prefix_len q l) l) (drop (prefix_len q l) l)
          → SplitsRun p (b ∷ l) (take (cond (p b) (1 + prefix_len q l) 0) (b ∷ l)) (drop (cond (p b) (1 + prefix_len q l) 0) (b ∷ l))
      go true e h = record { run = rw (e, more _) (ap (λ x. b ∷ x) h.run); past = rw (e, more _) h.past }
      go false e h = record { run = rw e refl; past = rw e refl }

-- of the first chunks of n elements, the one at k
chunk_at : (n count k : ℕ) (l : List ℕ) → k < count → get_or (first_chunks n count l) k [] ≡ take n (drop (n * k) l)
chunk_at n zero k l h = absurd (omega arith)
chunk_at n (suc count) zero l h = let e : n * 0 ≡ 0 = omega arith in rw e
chunk_at n (suc count) (suc k) l h = let e : n + n * k ≡ n * suc k = omega arith in rw (chunk_at n count k (drop n l) (omega arith), drop-drop, e)

-- n bytes at the front of l: the bytes of a class end among them, or go on past them
module _ (p : ℕ → Bool) (n : ℕ) (l : List ℕ) (h : n ≤ length l) where
  split : prefix_len p l ≡ cond (eqb (prefix_len p (take n l)) n) (n + prefix_len p (drop n l)) (prefix_len p (take n l))
  split = rw (take-append-drop, length-take-le n l h) at (prefix_len-append p (take n l) (drop n l))

  ends_within : prefix_len p (take n l) < n → prefix_len p (take n l) ≡ prefix_len p l
  ends_within e = let other : prefix_len p (take n l) ≡ n → ⊥ = λ q. omega (arith, q) in sym (rw (ne_eqb _ _ other) at split)

  goes_on : n ≤ prefix_len p (take n l) → n + prefix_len p (drop n l) ≡ prefix_len p l
  goes_on e = let whole : prefix_len p (take n l) ≡ n = omega (arith, prefix_len-le-length p (take n l), length-take-le n l h) in sym (rw (eq-eqb _ _ whole) at split)

-- the bytes of a class p at the front of s, found up to the four at k, whose first e bytes are of the class
module _ (p : ℕ → Bool) (s : List ℕ) (k e : ℕ) (h : k < length s / 4) (so_far : 4 * k + prefix_len p (drop (4 * k) s) ≡ prefix_len p s)
    (here : e ≡ prefix_len p (get_or (first_chunks 4 (length s / 4) s) k [])) where
  in_chunk : e ≡ prefix_len p (take 4 (drop (4 * k) s))
  in_chunk = rw (← chunk_at 4 (length s / 4) k s h) here

  enough : 4 ≤ length (drop (4 * k) s)
  enough = omega (arith, length-drop {A = ℕ})

  pub ends_in_four : e < 4 → 4 * k + e ≡ prefix_len p s
  ends_in_four x = let at : e ≡ prefix_len p (drop (4 * k) s) = in_chunk ∙ ends_within p 4 _ enough (rw (← in_chunk) x) in rw at so_far

  pub past_four : 4 ≤ e → 4 * (k + 1) + prefix_len p (drop (4 * (k + 1)) s) ≡ prefix_len p s
  past_four x =
      let next : 4 * (k + 1) ≡ 4 * k + 4 = omega arith in
      let on = rw drop-drop at (goes_on p 4 _ enough (rw (← in_chunk) x)) in
      rw next (omega (arith, on, so_far))

-- past the last four, at k, found in what is left
pub ends_past_fours : (p : ℕ → Bool) (s last : List ℕ) (k m e : ℕ) → 4 * k + prefix_len p (drop (4 * k) s) ≡ prefix_len p s
    → m ≤ k → k ≤ m → m ≡ length s / 4 → last ≡ drop (length s / 4 * 4) s → e ≡ prefix_len p last → 4 * m + e ≡ prefix_len p s
ends_past_fours p s last k m e so_far h i count l here =
    let all : length s / 4 * 4 ≡ 4 * k = omega arith in
    let as_left : e ≡ prefix_len p (drop (4 * k) s) = here ∙ ap (prefix_len p) l ∙ rw all in
    omega (arith, as_left, so_far)
