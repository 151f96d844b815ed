-- Adler-32, as RFC 1950 defines it: "s1 is the sum of all bytes, s2 is the sum of all s1 values. Both sums are done modulo 65521. s1 is initialized
-- to 1, s2 to zero. The Adler-32 checksum is stored as s2*65536 + s1".
-- Assumes nothing.
use Rattle.std.specs.Prelude.{ℕ, ◌+◌, ◌*◌, ◌/◌, ◌%◌, List, [], ◌∷◌}

-- the checksum of the sums s1 and s2 with the bytes after them
unfoldable pub sums : ℕ → ℕ → List ℕ → ℕ
sums s1 s2 [] = s2 * 65536 + s1
sums s1 s2 (b ∷ s) = sums ((s1 + b) % 65521) ((s2 + (s1 + b) % 65521) % 65521) s

-- the Adler-32 of bytes whose Adler-32 is c, with s after them
unfoldable pub adler : ℕ → List ℕ → ℕ
adler c s = sums (c % 65536) (c / 65536) s

-- the Adler-32 of s: that of no bytes is 1
abbrev pub adler_of : List ℕ → ℕ
adler_of s = adler 1 s
