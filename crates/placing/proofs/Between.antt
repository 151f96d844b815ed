-- The parts of the way from one position to another: computed without a sign, and in their order.
-- Assumes nothing.
use mathlib.Core.Path.{◌≡◌, sym, ap, ap₂, ◌∙◌}
use mathlib.Core.Bool.{true}
use Prim.Native.Nat.{ℕ, ◌+◌, ◌-◌, ◌*◌, ◌≤◌, ◌<◌}
use native.Mathlib.Nat.{mul-le-mul_left}
use native.Mathlib.Omega.{arith}
use lib.IntN.{ℤ, pos, nat_abs, sub_ℕ, ◌+ℤ◌, ◌-ℤ◌, ◌*ℤ◌}
use lib.Signed.{le_z}
use borrow.Author.Tests.{leb-true, le-leb}
use Rattle.numbers.specs.Units.{to_unit, rounded}
use Rattle.numbers.proofs.Integers.{diff-eq, diff-add, diff-sub, diff-mul, biased-order, biased-is}
use Rattle.numbers.proofs.Rounding.{unit-at, rounded-mono, rounded-exact}
use Rattle.numbers.proofs.Units.{rounded-high}
use Rattle.placing.specs.Fixup.{between}

-- from their biased forms, with any offset
pub part_at : (a b m k o : ℕ) → a ≤ b → 0 < k → sub_ℕ (a + rounded ((b - a) * m) k) o ≡ between (sub_ℕ a o) (sub_ℕ b o) m k
part_at a b m k o h p =
    let d : ℕ = (b - a) * m in
    let e : sub_ℕ b o -ℤ sub_ℕ a o ≡ sub_ℕ (b - a) 0 = diff-sub b o a o ∙ diff-eq (b + o) (o + a) (b - a) 0 (omega arith) in
    let f : to_unit ((sub_ℕ b o -ℤ sub_ℕ a o) *ℤ pos m) k ≡ sub_ℕ (rounded (d + 0) k) 0 =
    ap (λ (z : ℤ). to_unit (z *ℤ pos m) k) e
    ∙ ap (λ (z : ℤ). to_unit z k) (diff-mul (b - a) 0 m)
    ∙ unit-at d (0 * m) 0 0 k p (omega arith) in
    let s : d ≡ d + 0 = omega arith in
    sym
    (ap (λ (z : ℤ). sub_ℕ a o +ℤ z) f
    ∙ diff-add a o (rounded (d + 0) k) 0
    ∙ diff-eq (a + rounded (d + 0) k) (o + 0) (a + rounded d k) o (omega (arith, ap (λ (n : ℕ). rounded n k) s)))

pub part-within : (d m k : ℕ) → 0 < k → m ≤ k → rounded (d * m) k ≤ d
part-within d m k p h = rounded-high (d * m) d k p (mul-le-mul_left d h)

-- where A is not above B, the parts rise from A to B
module _ (A B : ℤ) (h : le_z A B ≡ true) where
  o : ℕ
  o = nat_abs A + nat_abs B

  a : ℕ
  a = nat_abs (A +ℤ pos o)

  b : ℕ
  b = nat_abs (B +ℤ pos o)

  at_a : A ≡ sub_ℕ a o
  unfolding a o
  at_a = sym (biased-is A (nat_abs A + nat_abs B) (omega arith))

  at_b : B ≡ sub_ℕ b o
  unfolding b o
  at_b = sym (biased-is B (nat_abs A + nat_abs B) (omega arith))

  a-b : a ≤ b
  a-b = leb-true a b (sym (ap₂ le_z at_a at_b ∙ biased-order a b o) ∙ h)

  part : (m k : ℕ) → 0 < k → between A B m k ≡ sub_ℕ (a + rounded ((b - a) * m) k) o
  part m k p = ap₂ (λ (x y : ℤ). between x y m k) at_a at_b ∙ sym (part_at a b m k o a-b p)

  below : (x y : ℤ) (u v : ℕ) → x ≡ sub_ℕ u o → y ≡ sub_ℕ v o → u ≤ v → le_z x y ≡ true
  below x y u v e f l = ap₂ le_z e f ∙ biased-order u v o ∙ le-leb u v l

  pub part-from : (m k : ℕ) → 0 < k → le_z A (between A B m k) ≡ true
  part-from m k p = below A (between A B m k) a (a + rounded ((b - a) * m) k) at_a (part m k p) (omega arith)

  pub part-to : (m k : ℕ) → 0 < k → m ≤ k → le_z (between A B m k) B ≡ true
  part-to m k p l = below (between A B m k) B (a + rounded ((b - a) * m) k) b (part m k p) at_b (omega (arith, part-within (b - a) m k p l, a-b))

  pub part-more : (m k : ℕ) → 0 < k → le_z (between A B m k) (between A B (m + 1) k) ≡ true
  part-more m k p =
      let l : (b - a) * m ≤ (b - a) * (m + 1) = mul-le-mul_left (b - a) (omega arith) in
      below (between A B m k) (between A B (m + 1) k) (a + rounded ((b - a) * m) k) (a + rounded ((b - a) * (m + 1)) k) (part m k p) (part (m + 1) k p)
      (omega (arith, rounded-mono ((b - a) * m) ((b - a) * (m + 1)) k p l))

  pub part-all : (m : ℕ) → 0 < m → between A B m m ≡ B
  part-all m p =
      let r : a + rounded ((b - a) * m) m ≡ b = omega (arith, rounded-exact (b - a) m p, a-b) in
      part m m p ∙ ap (λ (n : ℕ). sub_ℕ n o) r ∙ sym at_b
