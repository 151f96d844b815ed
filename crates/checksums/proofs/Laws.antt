-- Going on from a checksum: two texts, one after the other, and a loop's turn at index i of a text.
-- Assumes nothing.
use Rattle.std.proofs.Common.{◌≡◌, ℕ, ◌+◌, ◌*◌, ◌/◌, ◌%◌, ◌≤◌, ◌<◌, List, [], ◌∷◌, ◌++◌, length, get_or, drop, refl, add-one, drop-cons, arith}
use Rattle.std.proofs.Math.Nat.{div-add-mod'}
use Rattle.std.specs.Int.Bits.{bit_xor, xor_assoc, xor_self, xor_zero_r}
use Rattle.std.proofs.Math.ListN.{drop_of_length-le}
use Rattle.checksums.specs.Crc.{byte_step, register, crc}
use Rattle.checksums.specs.Adler.{sums, adler}

-- ---- CRC-32
-- an exclusive or, taken twice
xor-back : (n m : ℕ) → bit_xor (bit_xor n m) m ≡ n
xor-back n m = rw (xor_assoc, xor_self, xor_zero_r)

register-append : (c : ℕ) (a b : List ℕ) → register c (a ++ b) ≡ register (register c a) b
unfolding register
register-append c [] b = refl
register-append c (x ∷ a) b = register-append (byte_step c x) a b

-- no byte changes nothing
pub crc-none : (c : ℕ) → crc c [] ≡ c
unfolding register crc
crc-none c = xor-back c 4294967295

-- the CRC-32 of a text, from that of its first part
pub crc-append : (c : ℕ) (a b : List ℕ) → crc c (a ++ b) ≡ crc (crc c a) b
unfolding crc
crc-append c a b = rw (register-append, xor-back)

module _ (c : ℕ) (s : List ℕ) (i : ℕ) where
  pub register-end : length s ≤ i → register c (drop i s) ≡ c
  unfolding register
  register-end h = rw (drop_of_length-le s h)

  pub register-turn : i < length s → register (byte_step c (get_or s i 0)) (drop (i + 1) s) ≡ register c (drop i s)
  unfolding register
  register-turn h = rw (add-one, drop-cons s i 0 h)

-- ---- Adler-32
-- the two sums are the parts of the checksum
parts : (s1 s2 : ℕ) → s1 < 65536 → ((s2 * 65536 + s1) % 65536 ≡ s1) × ((s2 * 65536 + s1) / 65536 ≡ s2)
parts s1 s2 h = (omega arith, omega arith)

sums-append : (s1 s2 : ℕ) (a b : List ℕ) → s1 < 65536 → sums s1 s2 (a ++ b) ≡ adler (sums s1 s2 a) b
unfolding sums adler
sums-append s1 s2 [] b h = rw ((parts s1 s2 h).0, (parts s1 s2 h).1)
sums-append s1 s2 (x ∷ a) b h = sums-append ((s1 + x) % 65521) ((s2 + (s1 + x) % 65521) % 65521) a b (omega arith)

-- no byte changes nothing
pub adler-none : (c : ℕ) → adler c [] ≡ c
unfolding sums adler
adler-none c = div-add-mod' c 65536

-- the Adler-32 of a text, from that of its first part
pub adler-append : (c : ℕ) (a b : List ℕ) → adler c (a ++ b) ≡ adler (adler c a) b
unfolding adler
adler-append c a b = sums-append (c % 65536) (c / 65536) a b (omega arith)

module _ (s1 s2 : ℕ) (s : List ℕ) (i : ℕ) where
  pub sums-end : length s ≤ i → sums s1 s2 (drop i s) ≡ s2 * 65536 + s1
  unfolding sums
  sums-end h = rw (drop_of_length-le s h)

  pub sums-turn : i < length s
      → sums ((s1 + get_or s i 0) % 65521) ((s2 + (s1 + get_or s i 0) % 65521) % 65521) (drop (i + 1) s) ≡ sums s1 s2 (drop i s)
  unfolding sums
  sums-turn h = rw (add-one, drop-cons s i 0 h)
