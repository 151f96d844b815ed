-- Copies of one list that are made by blocks of k, and the rest from the front of a block; and what stands in an array's front.
-- Assumes nothing.
use mathlib.Core.Path.{◌≡◌, refl, sym, ap, ap₂, ◌∙◌}
use mathlib.Core.List.{List, ◌++◌}
use Prim.Native.Nat.{ℕ, zero, suc, ◌+◌, ◌-◌, ◌*◌, ◌/◌, ◌%◌, ◌≤◌, ◌<◌}
use native.Mathlib.Nat.{mul-zero, mul-le-mul_left, div-add-mod', mod-lt}
use native.Mathlib.Numerals.{add-one}
use native.Mathlib.Omega.{arith}
use lib.ListN.{length, take, length-take}
use lib.Seq.{length-take-le, take_at}
use Rattle.picture.specs.Picture.{joined, copies, patched}
use Rattle.picture.proofs.Rows.{joined-add, joined_same, copies_length, copies-more}
use Rattle.picture.proofs.Patches.{patch-step, patch-all}

-- the lengths of the blocks and of the rest
pub parts : (m n k : ℕ) → 0 < k → (m * k * (n / k) + m * (n % k) ≡ m * n) × (m * (n % k) ≤ m * k)
parts m n k h =
    let l : n % k < k = mod-lt n h in
    let e : m * (n / k * k + n % k) ≡ m * n = ap (λ (j : ℕ). m * j) (div-add-mod' n k) in
    (omega arith, mul-le-mul_left m (omega arith))

-- what fills the front of an array stands there
pub front-is : (b d s rest : List ℕ) (m : ℕ) → length d ≡ m → length s ≡ m → b ≡ patched d 0 s → take m (b ++ rest) ≡ s
front-is b d s rest m e f p = ap (λ (l : List ℕ). take m (l ++ rest)) (p ∙ patch-all d s (f ∙ sym e)) ∙ take_at s rest m f

pub front-within : (m : ℕ) (l : List ℕ) → length (take m l) ≡ m → m ≤ length l
front-within m l e = omega (arith, length-take m l)

module _ (s : List ℕ) where
  copies-add : (m n : ℕ) → copies (m + n) s ≡ copies m s ++ copies n s
  copies-add m n =
      let f : (ℕ → List ℕ) = λ (k : ℕ). s in
      joined-add f 0 m n ∙ ap (λ (l : List ℕ). copies m s ++ l) (joined_same f f (0 + m) 0 n (λ k l. refl))

  copies_of : (k q : ℕ) → copies q (copies k s) ≡ copies (k * q) s
  unfolding joined
  copies_of k zero = rw mul-zero
  copies_of k (suc q) =
      let e : k * q + k ≡ k * suc q = omega arith in
      ap (λ (j : ℕ). copies j (copies k s)) (sym (add-one q))
      ∙ copies-more (copies k s) q
      ∙ ap (λ (l : List ℕ). l ++ copies k s) (copies_of k q)
      ∙ sym (copies-add (k * q) k)
      ∙ ap (λ (j : ℕ). copies j s) e

  copies-front : (r k : ℕ) → r ≤ k → take (length s * r) (copies k s) ≡ copies r s
  copies-front r k h =
      let e : k ≡ r + (k - r) = omega arith in
      ap (λ (j : ℕ). take (length s * r) (copies j s)) e
      ∙ ap (take (length s * r)) (copies-add r (k - r))
      ∙ take_at (copies r s) (copies (k - r) s) (length s * r) (copies_length s r)

  in_blocks : (k n : ℕ) → 0 < k → copies (n / k) (copies k s) ++ take (length s * (n % k)) (copies k s) ≡ copies n s
  in_blocks k n h =
      let l : n % k < k = mod-lt n h in
      let e : k * (n / k) + n % k ≡ n = omega (arith, div-add-mod' n k) in
      ap₂ ◌++◌ (copies_of k (n / k)) (copies-front (n % k) k (omega arith)) ∙ sym (copies-add (k * (n / k)) (n % k)) ∙ ap (λ (j : ℕ). copies j s) e

  -- the blocks t are written to d, which makes it b, and then the rest, which makes it b'
  pub blocks_step : (d b b' t : List ℕ) (k n : ℕ) → 0 < k → t ≡ copies k s → length s * n ≤ length d → b ≡ patched d 0 (copies (n / k) t)
      → b' ≡ patched b (length t * (n / k)) (take (length s * (n % k)) t) → b' ≡ patched d 0 (copies n s)
  blocks_step d b b' t k n h e room p q =
      let c = parts (length s) n k h in
      let m : length t ≡ length s * k = ap length e ∙ copies_length s k in
      let mq : length t * (n / k) ≡ length s * k * (n / k) = ap (λ (j : ℕ). j * (n / k)) m in
      let r : length (take (length s * (n % k)) t) ≡ length s * (n % k) = length-take-le _ t (omega (arith, c.1)) in
      let l : length (copies (n / k) t) ≡ length t * (n / k) = copies_length t (n / k) in
      patch-step d (copies (n / k) t) (take (length s * (n % k)) t) b b' 0 (length t * (n / k)) (omega arith) (omega (arith, c.0)) p q
      ∙ ap (patched d 0) (ap (λ (x : List ℕ). copies (n / k) x ++ take (length s * (n % k)) x) e ∙ in_blocks k n h)
