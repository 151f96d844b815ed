-- Vectors as the code holds them: their sizes, and the sine and cosine of an angle by quadrants.
-- Assumes nothing.
use mathlib.Core.Path.{◌≡◌, refl, sym, ap, ap₂, ◌∙◌}
use mathlib.Core.Bool.{Bool, true, false}
use Prim.Native.Nat.{ℕ, zero, suc, ◌+◌, ◌-◌, ◌/◌, ◌%◌, ◌≤◌, ◌<◌}
use native.Mathlib.Omega.{arith}
use lib.IntN.{ℤ, pos, negsuc, neg_ℤ, nat_abs}
use Rattle.numbers.specs.Biased.{bias, biased}
use Rattle.numbers.specs.Floor.{remainder}
use Rattle.numbers.proofs.Integers.{biased-is}
use Rattle.numbers.proofs.Floors.{remainder-at}
use Rattle.sine.specs.Sines.{sine_of}
use Rattle.sine.proofs.Rules.{parts}
use Rattle.gradient.specs.declared.Vertical.{Vertical}
use Rattle.gradient.specs.declared.Vertical.TheVariants as Ver
use Rattle.gradient.specs.declared.Horizontal.{Horizontal}
use Rattle.gradient.specs.declared.Horizontal.TheVariants as Hor
use Rattle.line.specs.declared.SignedVector.{SignedVector}
use Rattle.line.specs.Vector.{vector, across, down, in_quadrant, sine_z, quarters, angle_vector}
use Rattle.line.specs.Represented.{signed, is_left, is_top, vector_in, Bounded, IsVector}

pub abs-signed : (s : Bool) (n : ℕ) → nat_abs (signed s n) ≡ n
abs-signed false n = refl
abs-signed true zero = refl
abs-signed true (suc n) = refl

-- every integer is a size with its sign
abbrev pub is_negative : ℤ → Bool
is_negative (pos n) = false
is_negative (negsuc n) = true

pub as-signed : (z : ℤ) → signed (is_negative z) (nat_abs z) ≡ z
as-signed (pos n) = refl
as-signed (negsuc n) = refl

pub across-is : (a : Horizontal) (n : ℕ) → signed (is_left a) n ≡ across a n
across-is Hor.Left n = refl
across-is Hor.Right n = refl

pub down_is : (v : Vertical) (n : ℕ) → signed (is_top v) n ≡ down v n
down_is Ver.Top n = refl
down_is Ver.Bottom n = refl

-- what is left of an angle after whole turns, from its biased form: 2^25 + 285,568 is 94 · 360,000
pub quarters-is : (a : ℤ) → nat_abs a ≤ bias → quarters a ≡ (biased a + 285568) % 360000 / 250
unfolding quarters
quarters-is a h =
    ap (λ (n : ℕ). n / 250)
    (ap (λ (z : ℤ). remainder z 360000) (sym (biased-is a bias h)) ∙ remainder-at (biased a) bias 285568 94 360000 (omega arith) refl)

-- a vector made of the table's entries at r and 360 - r, in either order, is within bounds
from-table : (v : SignedVector) (r : ℕ) → r ≤ 360 → v.x + v.y ≡ sine_of r + sine_of (360 - r) → Bounded v
from-table v r h e = let p = parts r h in record { some = omega arith; sum = omega arith }

-- the vector of an angle that is q quarter degrees past whole turns, in quadrant k, which m follows
pub angle-in : (v : SignedVector) (a : ℤ) (q k m : ℕ) → quarters a ≡ q → q / 360 ≡ k → k < 4 → (k + 1) % 4 ≡ m
    → v.x + v.y ≡ sine_of (q % 360) + sine_of (360 - q % 360)
    → vector_in v ≡ vector (in_quadrant k (q % 360)) (neg_ℤ (in_quadrant m (q % 360)))
    → IsVector v (angle_vector a)
unfolding sine_z
angle-in v a q k m turned quadrant below next sum is = record { is = rw turned (is ∙ sym (ap₂ vector sine (ap neg_ℤ cosine))); bounded = from-table v (q % 360) (omega arith) sum }
  where
    sine : sine_z q ≡ in_quadrant k (q % 360)
    sine = let e : q / 360 % 4 ≡ k = omega arith in ap (λ (n : ℕ). in_quadrant n (q % 360)) e

    cosine : sine_z (q + 360) ≡ in_quadrant m (q % 360)
    cosine =
        let e : (q + 360) / 360 % 4 ≡ m = omega arith in
        let f : (q + 360) % 360 ≡ q % 360 = omega arith in
        ap₂ in_quadrant e f
