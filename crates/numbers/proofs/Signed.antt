-- Signed numbers of 32 bits that can be biased, and what biased numbers stand for.
-- Assumes nothing.
use mathlib.Core.Path.{◌≡◌}
use Prim.Native.Nat.{ℕ, ◌+◌, ◌≤◌}
use native.Mathlib.Omega.{arith}
use lib.IntN.{ℤ, pos, negsuc, nat_abs}
use mir.Syntax.{w32}
use mir.Val.{SFits, of_z, to_z}
use mir.ValLaws.{to_z-of_z}
use Rattle.numbers.specs.Biased.{bias, biased, unbiased}
use Rattle.numbers.specs.Fraction.{distance}
use Rattle.numbers.proofs.Integers.{diff-abs, biased-near}

-- a number that can be biased, as 32 bits and as a biased number
module _ (z : ℤ) (h : nat_abs z ≤ bias) where
  small-fits : SFits w32 z
  small-fits = go z h
    where
      go : (z : ℤ) → nat_abs z ≤ bias → SFits w32 z
      go (pos n) k = record { sfits = omega arith }
      go (negsuc n) k = record { sfits = omega arith }

  pub small_same : to_z w32 (of_z w32 z) ≡ z
  small_same = to_z-of_z w32 z small-fits

  pub biased-high : biased z ≤ bias + bias
  biased-high = let k : distance (biased z) bias ≡ nat_abs z = biased-near z bias h in omega arith

-- a biased number, and the one that it stands for
module _ (u : ℕ) (h : u ≤ bias + bias) where
  pub unbiased-small : nat_abs (unbiased u) ≤ bias
  unbiased-small = rw (diff-abs u bias) (omega arith)
