-- Integers as differences of two counts: `sub_ℕ a b` is a − b. The laws turn a statement of integers into one of counts, which `omega` reads.
-- Assumes nothing.
use mathlib.Core.Path.{◌≡◌, refl, sym, ap, ◌∙◌}
use mathlib.Core.Bool.{Bool, true, false}
use Prim.Native.Nat.{ℕ, zero, suc, ◌+◌, ◌*◌, ◌-◌, ◌≤◌, ◌<◌}
use native.Mathlib.Nat.{mul-zero}
use native.Mathlib.Decide.{dec_le}
use native.Mathlib.Omega.{arith}
use lib.Dec.{leb}
use lib.Signed.{le_z}
use borrow.Author.Tests.{leb-true, leb-false, le-leb, lt-leb, le-ltb, lt-ltb}
use lib.IntN.{ℤ, pos, negsuc, ◌+ℤ◌, ◌-ℤ◌, ◌*ℤ◌, neg_ℤ, nat_abs, sub_ℕ, neg_ℤ-neg_ℤ}
use Rattle.numbers.specs.Fraction.{distance}

pub at-pos : (a b : ℕ) → b ≤ a → sub_ℕ a b ≡ pos (a - b)
at-pos a b h = rw (le-ltb a b h)

pub at-neg : (a b : ℕ) → a < b → sub_ℕ a b ≡ negsuc (b - suc a)
at-neg a b h = rw (lt-ltb a b h)

-- two differences are equal where the crosswise sums are
pub diff-eq : (a b c d : ℕ) → a + d ≡ c + b → sub_ℕ a b ≡ sub_ℕ c d
diff-eq a b c d e = either (dec_le b a)
  where
    either : Dec (b ≤ a) → sub_ℕ a b ≡ sub_ℕ c d
    either (yes h) = at-pos a b h ∙ ap pos (omega arith) ∙ sym (at-pos c d (omega arith))
    either (no f) = at-neg a b (omega arith) ∙ ap negsuc (omega arith) ∙ sym (at-neg c d (omega arith))

pub diff-pos : (a : ℕ) → pos a ≡ sub_ℕ a 0
diff-pos a = ap pos (omega arith) ∙ sym (at-pos a 0 (omega arith))

pub diff-of : (a b : ℕ) → pos a -ℤ pos b ≡ sub_ℕ a b
diff-of a zero = ap pos (omega arith) ∙ diff-pos a
diff-of a (suc b) = refl

pub diff-neg : (a b : ℕ) → neg_ℤ (sub_ℕ a b) ≡ sub_ℕ b a
diff-neg a b = either (dec_le b a)
  where
    at : (k : ℕ) → a ≡ b + k → neg_ℤ (pos k) ≡ sub_ℕ b a
    at zero e = diff-pos 0 ∙ diff-eq 0 0 b a (omega arith)
    at (suc k) e = ap negsuc (omega arith) ∙ sym (at-neg b a (omega arith))

    either : Dec (b ≤ a) → neg_ℤ (sub_ℕ a b) ≡ sub_ℕ b a
    either (yes h) = ap neg_ℤ (at-pos a b h) ∙ at (a - b) (omega arith)
    either (no f) = ap neg_ℤ (at-neg a b (omega arith)) ∙ ap pos (omega arith) ∙ sym (at-pos b a (omega arith))

pub diff-add : (a b c d : ℕ) → sub_ℕ a b +ℤ sub_ℕ c d ≡ sub_ℕ (a + c) (b + d)
diff-add a b c d = either (dec_le b a) (dec_le d c)
  where
    either : Dec (b ≤ a) → Dec (d ≤ c) → sub_ℕ a b +ℤ sub_ℕ c d ≡ sub_ℕ (a + c) (b + d)
    either (yes h) (yes k) = rw (at-pos a b h, at-pos c d k) (ap pos (omega arith) ∙ sym (at-pos (a + c) (b + d) (omega arith)))
    either (yes h) (no k) = rw (at-pos a b h, at-neg c d (omega arith)) (diff-eq (a - b) (suc (d - suc c)) (a + c) (b + d) (omega arith))
    either (no h) (yes k) = rw (at-neg a b (omega arith), at-pos c d k) (diff-eq (c - d) (suc (b - suc a)) (a + c) (b + d) (omega arith))
    either (no h) (no k) = rw (at-neg a b (omega arith), at-neg c d (omega arith)) (ap negsuc (omega arith) ∙ sym (at-neg (a + c) (b + d) (omega arith)))

pub diff-sub : (a b c d : ℕ) → sub_ℕ a b -ℤ sub_ℕ c d ≡ sub_ℕ (a + d) (b + c)
diff-sub a b c d = ap (λ (z : ℤ). sub_ℕ a b +ℤ z) (diff-neg c d) ∙ diff-add a b d c

pub diff-mul : (a b n : ℕ) → sub_ℕ a b *ℤ pos n ≡ sub_ℕ (a * n) (b * n)
diff-mul a b n = either (dec_le b a)
  where
    above : (k : ℕ) → a ≡ b + k → pos k *ℤ pos n ≡ sub_ℕ (a * n) (b * n)
    above k e = diff-pos (k * n) ∙ diff-eq (k * n) 0 (a * n) (b * n) (rw e (omega arith))

    below : (k : ℕ) → b ≡ a + suc k → negsuc k *ℤ pos n ≡ sub_ℕ (a * n) (b * n)
    below k e = ap neg_ℤ (diff-pos (suc k * n)) ∙ diff-neg (suc k * n) 0 ∙ diff-eq 0 (suc k * n) (a * n) (b * n) (rw e (omega arith))

    either : Dec (b ≤ a) → sub_ℕ a b *ℤ pos n ≡ sub_ℕ (a * n) (b * n)
    either (yes h) = ap (λ (z : ℤ). z *ℤ pos n) (at-pos a b h) ∙ above (a - b) (omega arith)
    either (no f) = ap (λ (z : ℤ). z *ℤ pos n) (at-neg a b (omega arith)) ∙ below (b - suc a) (omega arith)

-- a product with a minus
pub mul-neg : (z : ℤ) (n : ℕ) → z *ℤ neg_ℤ (pos n) ≡ neg_ℤ (z *ℤ pos n)
mul-neg (pos m) zero = simp mul-zero
mul-neg (negsuc m) zero = simp mul-zero
mul-neg (pos m) (suc n) = refl
mul-neg (negsuc m) (suc n) = sym (neg_ℤ-neg_ℤ (pos (suc m * suc n)))

-- a difference without its sign
pub diff-abs : (a b : ℕ) → nat_abs (sub_ℕ a b) ≡ distance a b
diff-abs a b = either (dec_le b a)
  where
    either : Dec (b ≤ a) → nat_abs (sub_ℕ a b) ≡ distance a b
    either (yes h) = ap nat_abs (at-pos a b h) ∙ omega arith
    either (no f) = ap nat_abs (at-neg a b (omega arith)) ∙ omega arith

pub same-leb : (a b c d : ℕ) → (a ≤ b → c ≤ d) → (b < a → d < c) → leb c d ≡ leb a b
same-leb a b c d f g = go (leb a b) refl
  where
    go : (t : Bool) → leb a b ≡ t → leb c d ≡ t
    go true e = le-leb c d (f (leb-true a b e))
    go false e = lt-leb c d (g (leb-false a b e))

-- the order of differences is that of the crosswise sums
pub diff-order : (a b c d : ℕ) → le_z (sub_ℕ a b) (sub_ℕ c d) ≡ leb (a + d) (c + b)
diff-order a b c d = either (dec_le b a) (dec_le d c)
  where
    either : Dec (b ≤ a) → Dec (d ≤ c) → le_z (sub_ℕ a b) (sub_ℕ c d) ≡ leb (a + d) (c + b)
    either (yes h) (yes k) = rw (at-pos a b h, at-pos c d k) (same-leb (a + d) (c + b) (a - b) (c - d) (λ p. omega arith) (λ p. omega arith))
    either (yes h) (no k) = rw (at-pos a b h, at-neg c d (omega arith)) (sym (lt-leb (a + d) (c + b) (omega arith)))
    either (no h) (yes k) = rw (at-neg a b (omega arith), at-pos c d k) (sym (le-leb (a + d) (c + b) (omega arith)))
    either (no h) (no k) = rw (at-neg a b (omega arith), at-neg c d (omega arith)) (same-leb (a + d) (c + b) (d - suc c) (b - suc a) (λ p. omega arith) (λ p. omega arith))

-- with one offset it is the order of the biased numbers
pub biased-order : (a b k : ℕ) → le_z (sub_ℕ a k) (sub_ℕ b k) ≡ leb a b
biased-order a b k = diff-order a k b k ∙ same-leb a b (a + k) (b + k) (λ p. omega arith) (λ p. omega arith)

-- every integer can be biased, with any offset that is large enough
pub biased-is : (z : ℤ) (k : ℕ) → nat_abs z ≤ k → sub_ℕ (nat_abs (z +ℤ pos k)) k ≡ z
biased-is (pos n) k h = at-pos (n + k) k (omega arith) ∙ ap pos (omega arith)
biased-is (negsuc n) k h = ap (λ (z : ℤ). sub_ℕ (nat_abs z) k) (at-pos k (suc n) h) ∙ at-neg (k - suc n) k (omega arith) ∙ ap negsuc (omega arith)

-- and no further from the offset than it is from 0
pub biased-near : (z : ℤ) (k : ℕ) → nat_abs z ≤ k → distance (nat_abs (z +ℤ pos k)) k ≡ nat_abs z
biased-near z k h = sym (diff-abs (nat_abs (z +ℤ pos k)) k) ∙ ap nat_abs (biased-is z k h)

-- what is biased is found again
pub biased-again : (u k : ℕ) → nat_abs (sub_ℕ u k +ℤ pos k) ≡ u
biased-again u k = ap (λ (z : ℤ). nat_abs (sub_ℕ u k +ℤ z)) (diff-pos k) ∙ ap nat_abs (diff-add u k k 0 ∙ diff-eq (u + k) (k + 0) u 0 (omega arith) ∙ sym (diff-pos u))

-- a count above the offset stands for itself
pub biased-count : (k q : ℕ) → sub_ℕ (k + q) k ≡ pos q
biased-count k q = at-pos (k + q) k (omega arith) ∙ ap pos (omega arith)
