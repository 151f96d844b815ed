-- The order of integers.
-- Assumes nothing.
use mathlib.Core.Path.{◌≡◌, refl}
use mathlib.Core.Bool.{true}
use native.Mathlib.Nat.{le_refl, le_trans}
use lib.IntN.{ℤ, pos, negsuc}
use lib.Signed.{le_z}
use borrow.Author.Tests.{leb-true, le-leb}

pub le_z-refl : (a : ℤ) → le_z a a ≡ true
le_z-refl (pos a) = le-leb a a (le_refl a)
le_z-refl (negsuc a) = le-leb a a (le_refl a)

pub le_z-trans : (a b c : ℤ) → le_z a b ≡ true → le_z b c ≡ true → le_z a c ≡ true
le_z-trans (pos a) (pos b) (pos c) h k = le-leb a c (le_trans (leb-true a b h) (leb-true b c k))
le_z-trans (pos a) (pos b) (negsuc c) h k = k
le_z-trans (pos a) (negsuc b) (pos c) h k = cc
le_z-trans (pos a) (negsuc b) (negsuc c) h k = h
le_z-trans (negsuc a) b (pos c) h k = refl
le_z-trans (negsuc a) (pos b) (negsuc c) h k = cc
le_z-trans (negsuc a) (negsuc b) (negsuc c) h k = le-leb c a (le_trans (leb-true c b k) (leb-true b a h))
