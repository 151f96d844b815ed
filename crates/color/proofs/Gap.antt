-- The distances that a mix takes, at a whole location and at a fraction just above it, as whole numbers. Integers are biased: `sub_ℕ a k` is a − k.
-- Assumes nothing.
use mathlib.Core.Path.{◌≡◌, sym, ap, ◌∙◌}
use mathlib.Core.Bool.{true, false}
use Prim.Native.Nat.{ℕ, ◌+◌, ◌-◌, ◌*◌, ◌≤◌, ◌<◌}
use native.Mathlib.Nat.{add-mul, mul-le-mul_right, le-mul_of_pos_right}
use native.Mathlib.Omega.{arith}
use lib.Dec.{leb}
use lib.IntN.{ℤ, pos, nat_abs, sub_ℕ, ◌+ℤ◌, ◌*ℤ◌, *ℤ-one, one}
use lib.Signed.{le_z}
use borrow.Author.Tests.{leb-true, leb-false, le-leb, lt-leb}
use Rattle.numbers.proofs.Integers.{diff-pos, diff-eq, diff-add, diff-sub, diff-mul, diff-abs, biased-order, biased-is, same-leb}
use Rattle.color.specs.Stop.{Location, whole, at_or_below}
use Rattle.color.specs.Byte.{units}
use Rattle.color.specs.Accuracy.{Within}

-- The distances at s and at t between a position at or below s and one above it: x and y at s, x * den + e and z at t.
pub record Gap (a b s : ℤ) (t : Location) : Type 0 where
  pub x : ℕ
  pub y : ℕ
  pub z : ℕ
  pub e : ℕ
  pub sum : units a b ≡ x + y
  pub left : units (a *ℤ pos 1) s ≡ x
  pub right : units s (b *ℤ pos 1) ≡ y
  pub left-t : units (a *ℤ pos t.den) t.num ≡ x * t.den + e
  pub right-t : units t.num (b *ℤ pos t.den) ≡ z
  pub some : 0 < y
  pub rest : z + e ≡ y * t.den
  pub part : e < t.den

once : (z : ℤ) → z *ℤ pos 1 ≡ z
unfolding one
once z = *ℤ-one z

-- ---- the tests and the distances, of biased numbers
pub biased-units : (a b k : ℕ) → a ≤ b → units (sub_ℕ a k) (sub_ℕ b k) ≡ b - a
biased-units a b k h = ap nat_abs (diff-sub b k a k) ∙ diff-abs (b + k) (k + a) ∙ omega arith

pub test-whole : (a u k : ℕ) → at_or_below (whole (sub_ℕ u k)) (sub_ℕ a k) ≡ leb a u
test-whole a u k = ap (λ (z : ℤ). le_z z (sub_ℕ u k)) (once (sub_ℕ a k)) ∙ biased-order a u k

pub units-left : (a u k : ℕ) → a ≤ u → units (sub_ℕ a k *ℤ pos 1) (sub_ℕ u k) ≡ u - a
units-left a u k h = ap (λ (z : ℤ). units z (sub_ℕ u k)) (once (sub_ℕ a k)) ∙ biased-units a u k h

pub units-right : (b u k : ℕ) → u ≤ b → units (sub_ℕ u k) (sub_ℕ b k *ℤ pos 1) ≡ b - u
units-right b u k h = ap (λ (z : ℤ). units (sub_ℕ u k) z) (once (sub_ℕ b k)) ∙ biased-units u b k h

biased-next : (u k : ℕ) → sub_ℕ u k +ℤ pos 1 ≡ sub_ℕ (u + 1) k
biased-next u k = ap (λ (z : ℤ). sub_ℕ u k +ℤ z) (diff-pos 1) ∙ diff-add u k 1 0 ∙ diff-eq (u + 1) (k + 0) (u + 1) k (omega arith)

module _ (k d u v : ℕ) where
  abbrev pub at : Location
  at = record { num = sub_ℕ v (k * d); den = d }

  test-part : (a : ℕ) → at_or_below at (sub_ℕ a k) ≡ leb (a * d) v
  test-part a = ap (λ (z : ℤ). le_z z (sub_ℕ v (k * d))) (diff-mul a k d) ∙ biased-order (a * d) v (k * d)

  pub within-biased : 0 < d → u * d ≤ v → v < (u + 1) * d → Within (sub_ℕ u k) at
  within-biased s l h = record {
    fraction = s;
    from = test-part u ∙ le-leb (u * d) v l;
    below = ap (at_or_below at) (biased-next u k) ∙ test-part (u + 1) ∙ lt-leb ((u + 1) * d) v h;
  }

  module _ (w : Within (sub_ℕ u k) at) where
    pub from : u * d ≤ v
    from = leb-true (u * d) v (sym (test-part u) ∙ w.from)

    pub below : v < (u + 1) * d
    below = leb-false ((u + 1) * d) v (sym (test-part (u + 1)) ∙ ap (at_or_below at) (sym (biased-next u k)) ∙ w.below)

    same-biased : (a : ℕ) → at_or_below at (sub_ℕ a k) ≡ at_or_below (whole (sub_ℕ u k)) (sub_ℕ a k)
    same-biased a =
        test-part a
        ∙ same-leb a u (a * d) v (λ h. omega (arith, from, mul-le-mul_right d h)) (λ h. omega (arith, below, mul-le-mul_right d h))
        ∙ sym (test-whole a u k)

    gap-biased : (a b : ℕ) → a ≤ u → u < b → Gap (sub_ℕ a k) (sub_ℕ b k) (sub_ℕ u k) at
    gap-biased a b ha hb =
        let lo : (u - a) * d + a * d ≡ u * d = sym (add-mul (u - a) a d) ∙ ap (λ (m : ℕ). m * d) (omega arith) in
        let hi : (b - u) * d + u * d ≡ b * d = sym (add-mul (b - u) u d) ∙ ap (λ (m : ℕ). m * d) (omega arith) in
        let reach : v ≤ b * d = omega (arith, below, mul-le-mul_right d hb) in
        record {
          x = u - a;
          y = b - u;
          z = b * d - v;
          e = v - u * d;
          sum = biased-units a b k (omega arith) ∙ omega arith;
          left = units-left a u k ha;
          right = units-right b u k (omega arith);
          left-t = ap (λ (z : ℤ). units z (sub_ℕ v (k * d))) (diff-mul a k d) ∙ biased-units (a * d) v (k * d) (omega (arith, from)) ∙ omega (arith, from);
          right-t = ap (λ (z : ℤ). units (sub_ℕ v (k * d)) z) (diff-mul b k d) ∙ biased-units v (b * d) (k * d) reach;
          some = omega arith;
          rest = omega (arith, from);
          part = omega (arith, below);
        }

-- ---- the same of any integers, each as some biased number
module _ (d k u v : ℕ) (s n : ℤ) (es : sub_ℕ u k ≡ s) (en : sub_ℕ v (k * d) ≡ n) where
  same_of : (a : ℕ) (p : ℤ) → sub_ℕ a k ≡ p → Within s (record { num = n; den = d }) → at_or_below (record { num = n; den = d }) p ≡ at_or_below (whole s) p
  same_of a p ep = rw (← es, ← en, ← ep) (λ w. same-biased k d u v w a)

  gap_of : (a b : ℕ) (p q : ℤ) → sub_ℕ a k ≡ p → sub_ℕ b k ≡ q → Within s (record { num = n; den = d })
      → at_or_below (whole s) p ≡ true → at_or_below (whole s) q ≡ false → Gap p q s (record { num = n; den = d })
  gap_of a b p q ep eq = rw (← es, ← en, ← ep, ← eq) (λ w ha hb.
      gap-biased k d u v w a b (leb-true a u (sym (test-whole a u k) ∙ ha)) (leb-false b u (sym (test-whole b u k) ∙ hb)))

pub same_test : (s : ℤ) (t : Location) → Within s t → (p : ℤ) → at_or_below t p ≡ at_or_below (whole s) p
same_test s t w p =
    let k : ℕ = nat_abs s + nat_abs t.num + nat_abs p in
    same_of t.den k (nat_abs (s +ℤ pos k)) (nat_abs (t.num +ℤ pos (k * t.den))) s t.num
    (biased-is s k (omega arith)) (biased-is t.num (k * t.den) (omega (arith, le-mul_of_pos_right k w.fraction)))
    (nat_abs (p +ℤ pos k)) p (biased-is p k (omega arith)) w

pub gap : (a b s : ℤ) (t : Location) → Within s t → at_or_below (whole s) a ≡ true → at_or_below (whole s) b ≡ false → Gap a b s t
gap a b s t w =
    let k : ℕ = nat_abs s + nat_abs t.num + nat_abs a + nat_abs b in
    gap_of t.den k (nat_abs (s +ℤ pos k)) (nat_abs (t.num +ℤ pos (k * t.den))) s t.num
    (biased-is s k (omega arith)) (biased-is t.num (k * t.den) (omega (arith, le-mul_of_pos_right k w.fraction)))
    (nat_abs (a +ℤ pos k)) (nat_abs (b +ℤ pos k)) a b (biased-is a k (omega arith)) (biased-is b k (omega arith)) w
