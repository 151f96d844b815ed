-- A magnitude with a sign, as the 32 bits of a number that is cut off.
-- Assumes nothing.
use mathlib.Core.Path.{◌≡◌, ap, ◌∙◌}
use mathlib.Core.Bool.{Bool, true, false}
use Prim.Native.Nat.{ℕ, zero, suc, ◌≤◌}
use native.Mathlib.Omega.{arith}
use lib.IntN.{ℤ, pos, neg_ℤ, ◌-ℤ◌, +ℤ_idl}
use mir.Syntax.{w32}
use mir.Val.{SFits, to_z, of_z}
use mir.ValLaws.{to_z_pos, to_z-of_z}
use Rattle.tokens.specs.Number.{signed}
use Rattle.tokens.specs.Cut.{most}

module _ (n : ℕ) (h : n ≤ most) where
  pub plus : to_z w32 n ≡ signed false n
  plus = to_z_pos w32 n (omega arith)

  pub minus : pos 0 -ℤ to_z w32 n ≡ signed true n
  minus = ap (λ (z : ℤ). pos 0 -ℤ z) plus ∙ +ℤ_idl (neg_ℤ (pos n))

pub signed-fits : (b : Bool) (n : ℕ) → n ≤ most → SFits w32 (signed b n)
signed-fits true zero h = record { sfits = omega arith }
signed-fits true (suc n) h = record { sfits = omega arith }
signed-fits false n h = record { sfits = omega arith }

pub signed_back : (b : Bool) (n : ℕ) → n ≤ most → to_z w32 (of_z w32 (signed b n)) ≡ signed b n
signed_back b n h = to_z-of_z w32 (signed b n) (signed-fits b n h)
