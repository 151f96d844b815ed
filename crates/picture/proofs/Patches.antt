-- Laws of writes: `patched d at s` is d with s in place of what stands from `at` on.
-- Assumes nothing.
use mathlib.Core.Path.{◌≡◌, refl, sym, ap, ap₂, ◌∙◌}
use mathlib.Core.List.{List, [], ◌∷◌, ◌++◌, append_assoc, append-nil}
use Prim.Native.Nat.{ℕ, zero, suc, ◌+◌, ◌-◌, ◌≤◌, ◌<◌}
use native.Mathlib.Nat.{add-zero, add_assoc}
use native.Mathlib.Numerals.{add-one}
use native.Mathlib.Omega.{arith}
use lib.ListN.{length, get_or, take, drop, replicate, set, length-append, length-drop, length-replicate, take-append-drop, replicate-append-replicate, get_or-append}
use lib.Seq.{length-take-le, take-add, take-append-le, drop-append-le, take_at, take-suc, drop-append-add, drop-drop, drop_at, drop-length, get_or-take, get_or-drop, sets-eq}
use Rattle.std.proofs.Common.{◌*◌, min}
use Rattle.std.proofs.lemmas.Bool.Decides.{nat_tests}
use Rattle.picture.specs.Picture.{patched, padded, buffer}

module _ {A : Type 0} where
  -- what follows a seam at n, m further on
  after : (p d : List A) (n m : ℕ) → length p ≡ n → drop (n + m) (p ++ drop n d) ≡ drop (n + m) d
  after p d n m l = rw (← l) (rw (drop-append-add, drop-drop))

  -- two patches in order are one
  pub patch-patch : (d s t : List A) (at : ℕ) → at + length s + length t ≤ length d
      → patched (patched d at s) (at + length s) t ≡ patched d at (s ++ t)
  patch-patch d s t at h =
      let n : ℕ = at + length s in
      let p : List A = take at d ++ s in
      let l : length p ≡ n = rw (length-append, length-take-le at d (omega arith)) in
      rw (take_at p (drop n d) n l, after p d n (length t) l, length-append, ← add_assoc) (simp append_assoc)

  pub patch-none : (d : List A) (at : ℕ) → d ≡ patched d at []
  patch-none d at = rw (add-zero, append-nil, take-append-drop)

  pub patch-length : (d s : List A) (at : ℕ) → at + length s ≤ length d → length (patched d at s) ≡ length d
  patch-length d s at h = rw (length-append, length-append, length-take-le at d (omega arith), length-drop) (omega arith)

  -- a turn of a loop that writes: t is put at o, right after s
  pub patch-step : (d s t b b' : List A) (at o : ℕ) → o ≡ at + length s → o + length t ≤ length d
      → b ≡ patched d at s → b' ≡ patched b o t → b' ≡ patched d at (s ++ t)
  patch-step d s t b b' at o e h p q =
      q ∙ ap (λ (l : List A). patched l o t) p ∙ ap (λ (k : ℕ). patched (patched d at s) k t) e ∙ patch-patch d s t at (omega arith)

  -- .. with one store
  pub set-step : (d s b : List A) (at o : ℕ) (v : A) → o ≡ at + length s → o < length d → b ≡ patched d at s
      → set b o v ≡ patched d at (s ++ (v ∷ []))
  set-step d s b at o v e h p =
      let k : length b ≡ length d = ap length p ∙ patch-length d s at (omega arith) in
      let g : o + 1 ≤ length b = omega arith in
      patch-step d s (v ∷ []) b (set b o v) at o e (omega arith) p (sets-eq (v ∷ []) b o g)

  -- a patch up to the end
  pub patch-end : (d s : List A) (at : ℕ) → at + length s ≡ length d → patched d at s ≡ take at d ++ s
  patch-end d s at e = rw (e, drop-length, append-nil)

  -- everything anew
  pub patch-all : (d s : List A) → length s ≡ length d → patched d 0 s ≡ s
  patch-all d s e = patch-end d s 0 (omega arith)

  -- a patch within a patch
  pub patch-within : (d p m q t : List A) (at o : ℕ) → length m ≡ length t → at ≤ length d → o ≡ at + length p
      → patched (patched d at (p ++ m ++ q)) o t ≡ patched d at (p ++ t ++ q)
  patch-within d p m q t at o e h f =
      let r : List A = drop (at + length (p ++ m ++ q)) d in
      let u : List A = take at d ++ p in
      let l : length u ≡ o = rw (length-append, length-take-le at d h) (sym f) in
      let g : take at d ++ (p ++ m ++ q) ++ r ≡ u ++ (m ++ (q ++ r)) = simp append_assoc in
      let n : length (p ++ m ++ q) ≡ length (p ++ t ++ q) = simp (length-append, e) in
      let v : drop (o + length t) (u ++ (m ++ (q ++ r))) ≡ q ++ r = rw (← l, drop-append-add, drop_at m (q ++ r) (length t) e) in
      ap (λ (x : List A). take o x ++ t ++ drop (o + length t) x) g
      ∙ ap₂ (λ (x y : List A). x ++ t ++ y) (take_at u (m ++ (q ++ r)) o l) v
      ∙ ap (λ (k : ℕ). u ++ t ++ (q ++ drop (at + k) d)) n
      ∙ simp append_assoc

  -- an element before the patch
  pub patch-before : (d s : List A) (at i : ℕ) (z : A) → at ≤ length d → i < at → get_or (patched d at s) i z ≡ get_or d i z
  patch-before d s at i z h k =
      let a : i < length (take at d) = rw (length-take-le at d h) k in
      let b : i < length (take at d ++ s) = rw length-append (omega arith) in
      get_or-append (take at d ++ s) (drop (at + length s) d) z i b ∙ get_or-append (take at d) s z i a ∙ get_or-take at d i z k

  -- a second patch over a first that is not longer
  pub patch-over : (d s t : List A) (at : ℕ) → length s ≤ length t → at + length t ≤ length d → patched (patched d at s) at t ≡ patched d at t
  patch-over d s t at l h =
      let n : ℕ = at + length s in
      let p : List A = take at d ++ s in
      let k : length p ≡ n = rw (length-append, length-take-le at d (omega arith)) in
      let front : take at (patched d at s) ≡ take at d =
      ap (take at) (append_assoc (take at d) s (drop n d)) ∙ take_at (take at d) (s ++ drop n d) at (length-take-le at d (omega arith)) in
      let e : at + length t ≡ n + (length t - length s) = omega arith in
      let back : drop (at + length t) (patched d at s) ≡ drop (at + length t) d = rw e (after p d n (length t - length s) k) in
      rw (front, back)

  -- a part of n elements of what was put
  pub patch-part : (d r s t : List A) (at n : ℕ) → length s ≡ n → at ≤ length d → take n (drop (at + length r) (patched d at (r ++ s ++ t))) ≡ s
  patch-part d r s t at n e h =
      let q : List A = drop (at + length (r ++ s ++ t)) d in
      let p : List A = take at d ++ r in
      let k : length p ≡ at + length r = rw (length-append, length-take-le at d h) in
      let u : patched d at (r ++ s ++ t) ≡ p ++ (s ++ (t ++ q)) = simp append_assoc in
      rw (u, drop_at p (s ++ (t ++ q)) (at + length r) k) (take_at s (t ++ q) n e)

  pub patch-first : (d s t : List A) (at n : ℕ) → length s ≡ n → at ≤ length d → take n (drop at (patched d at (s ++ t))) ≡ s
  patch-first d s t at n e h = rw add-zero at (patch-part d [] s t at n e h)

  pub patch-here : (d s : List A) (at n : ℕ) → length s ≡ n → at ≤ length d → take n (drop at (patched d at s)) ≡ s
  patch-here d s at n e h = rw append-nil at (patch-first d s [] at n e h)

  -- what stands there anyway
  pub patch-self : (d : List A) (at n : ℕ) → at + n ≤ length d → d ≡ patched d at (take n (drop at d))
  patch-self d at n h =
      let k : length (take n (drop at d)) ≡ n = length-take-le n (drop at d) (rw length-drop (omega arith)) in
      sym (rw (k, ← drop-drop n at d, append_assoc, take-append-drop, take-append-drop))

  -- a turn of a loop that fills: the store at i makes one v more
  pub fill_step : (d b : List A) (at i : ℕ) (v : A) → at ≤ i → i < length d → b ≡ patched d at (replicate (i - at) v)
      → set b i v ≡ patched d at (replicate (i + 1 - at) v)
  fill_step d b at i v h k p =
      let n : length (replicate (i - at) v) ≡ i - at = length-replicate (i - at) v in
      let e : i + 1 - at ≡ i - at + 1 = omega arith in
      rw (e, ← replicate-append-replicate {A = A} (i - at) 1 v) (set-step d (replicate (i - at) v) b at i v (omega arith) k p)

  -- what stands before the patch
  front : (p q : List A) (from n : ℕ) → from + n ≤ length p → take n (drop from (p ++ q)) ≡ take n (drop from p)
  front p q from n h = rw (drop-append-le from p q (omega arith)) (take-append-le n (drop from p) q (rw length-drop (omega arith)))

  pub patch-kept : (d s : List A) (at from n : ℕ) → from + n ≤ at → at ≤ length d → take n (drop from (patched d at s)) ≡ take n (drop from d)
  patch-kept d s at from n h l =
      let k : length (take at d) ≡ at = length-take-le at d l in
      ap (λ (x : List A). take n (drop from x)) (append_assoc (take at d) s (drop (at + length s) d))
      ∙ front (take at d) (s ++ drop (at + length s) d) from n (omega arith)
      ∙ sym (front (take at d) (drop at d) from n (omega arith))
      ∙ ap (λ (x : List A). take n (drop from x)) (take-append-drop at d)

  -- a turn of a loop that copies a list: an element, and k at a time
  pub piece-more : (d b s : List A) (at i : ℕ) (z : A) → i < length s → at + i < length d → b ≡ patched d at (take i s)
      → set b (at + i) (get_or s i z) ≡ patched d at (take (i + 1) s)
  piece-more d b s at i z l k p =
      let n : length (take i s) ≡ i = length-take-le i s (omega arith) in
      rw (add-one i, take-suc s i z l) (set-step d (take i s) b at (at + i) _ (omega arith) k p)

  pub pieces_more : (d b b' s : List A) (at i k : ℕ) → i + k ≤ length s → at + (i + k) ≤ length d → b ≡ patched d at (take i s)
      → b' ≡ patched b (at + i) (take k (drop i s)) → b' ≡ patched d at (take (i + k) s)
  pieces_more d b b' s at i k h l p q =
      let ns : length (take i s) ≡ i = length-take-le i s (omega arith) in
      let nt : length (take k (drop i s)) ≡ k = length-take-le k (drop i s) (rw length-drop (omega arith)) in
      rw (take-add i k s) (patch-step d (take i s) (take k (drop i s)) b b' at (at + i) (omega arith) (omega arith) p q)

  -- .. and of one that copies what stands from `from` on to a later place
  pub copies-step : (d b b' : List A) (from to i k : ℕ) → from + (i + k) ≤ to → to + (i + k) ≤ length d → b ≡ patched d to (take i (drop from d))
      → b' ≡ patched b (to + i) (take k (drop (from + i) b)) → b' ≡ patched d to (take (i + k) (drop from d))
  copies-step d b b' from to i k h l p q =
      let n : length (drop from d) ≡ length d - from = length-drop from d in
      let e : take k (drop (from + i) b) ≡ take k (drop i (drop from d)) =
      ap (λ (x : List A). take k (drop (from + i) x)) p ∙ patch-kept d (take i (drop from d)) to (from + i) k (omega arith) (omega arith) ∙ ap (take k) (sym (drop-drop i from d)) in
      pieces_more d b b' (drop from d) to i k (omega arith) l p (q ∙ ap (patched b (to + i)) e)

  -- a turn of a loop that copies: the byte at i is copied, too
  pub copy_step : (d b : List A) (from to i : ℕ) (z : A) → from + i < to → to + i < length d → b ≡ patched d to (take i (drop from d))
      → set b (to + i) (get_or b (from + i) z) ≡ patched d to (take (i + 1) (drop from d))
  copy_step d b from to i z h k p =
      let l : i < length (drop from d) = rw length-drop (omega arith) in
      let v : get_or b (from + i) z ≡ get_or (drop from d) i z =
      ap (λ (x : List A). get_or x (from + i) z) p ∙ patch-before d (take i (drop from d)) to (from + i) z (omega arith) h ∙ sym (get_or-drop from d i z) in
      rw v (piece-more d b (drop from d) to i z l k p)

-- ---- the buffer after a call
-- s written from the start on, then zeros from its end on
pub painted : (d s b : List ℕ) (e : ℕ) → e ≡ length s → e ≤ length d → b ≡ patched d 0 s
    → patched b e (replicate (length b - e) 0) ≡ padded (length d) s
painted d s b e p h q =
    let k : length b ≡ length d = ap length q ∙ patch-length d s 0 (omega arith) in
    patch-end b (replicate (length b - e) 0) e (rw length-replicate (omega arith))
    ∙ rw (k, q, take_at s (drop (0 + length s) d) e (sym p), p)

-- after a refusal the buffer is all zeros
pub refused : (r : ℕ) (pic : List ℕ) (n : ℕ) → (r ≡ 0 → ⊥) → replicate n 0 ≡ buffer r pic n
refused zero pic n h = absurd (h refl)
refused (suc r) pic n h = refl

-- the first blocks of n elements, of `size` each, and one more
pub more-blocks : (size block n : ℕ) → size * block ≤ n → (min (size * block) n ≡ size * block) × (min (size * (block + 1)) n ≡ size * block + min (n - size * block) size)
more-blocks size block n h = (grind (arith, nat_tests), grind (arith, nat_tests))
