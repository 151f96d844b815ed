-- Whole numbers of either sign, which the code keeps biased: as unsigned numbers 2^25 above them. (`sub_ℕ a b` is a − b as an integer.)
-- Assumes nothing.
use Rattle.std.specs.Prelude.{ℕ, ℤ, pos, nat_abs, ◌+ℤ◌}
use Rattle.std.proofs.Math.IntN.{sub_ℕ}

abbrev pub bias : ℕ
bias = 33554432

abbrev pub twice_bias : ℕ
twice_bias = 67108864

-- the number that u stands for
abbrev pub unbiased : ℕ → ℤ
unbiased u = sub_ℕ u bias

-- the unsigned number for z, where z is not below −2^25
abbrev pub biased : ℤ → ℕ
biased z = nat_abs (z +ℤ pos bias)
