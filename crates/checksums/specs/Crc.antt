-- CRC-32, as PNG and ISO 3309 define it: the remainder of a division of polynomials over two elements, bit by bit. The register holds the remainder
-- with its highest power in the lowest bit, so that a byte's lowest bit goes first. It starts as 32 ones, and its ones and zeros are swapped at
-- the end.
-- Assumes nothing.
use Rattle.std.specs.Prelude.{ℕ, zero, suc, ◌*◌, ◌/◌, ◌%◌, List, [], ◌∷◌}
use Rattle.std.specs.Int.Bits.{bit_xor}

-- x^32 + x^26 + x^23 + x^22 + x^16 + x^12 + x^11 + x^10 + x^8 + x^7 + x^5 + x^4 + x^2 + x + 1, without x^32: 0xedb88320
abbrev pub polynomial : ℕ
polynomial = 3988292384

-- one bit leaves the register; where it is 1, the polynomial is subtracted, which is an exclusive or
unfoldable pub bit_step : ℕ → ℕ
bit_step c = bit_xor (c / 2) (c % 2 * polynomial)

unfoldable pub bits : ℕ → ℕ → ℕ
bits zero c = c
bits (suc n) c = bits n (bit_step c)

-- a byte is taken in, and its eight bits leave
unfoldable pub byte_step : ℕ → ℕ → ℕ
byte_step c b = bits 8 (bit_xor c b)

-- the register after some bytes
unfoldable pub register : ℕ → List ℕ → ℕ
register c [] = c
register c (b ∷ s) = register (byte_step c b) s

-- 32 bits with ones and zeros swapped
abbrev pub swapped : ℕ → ℕ
swapped c = bit_xor c 4294967295

-- the CRC-32 of bytes whose CRC-32 is c, with s after them
unfoldable pub crc : ℕ → List ℕ → ℕ
crc c s = swapped (register (swapped c) s)

-- the CRC-32 of s: that of no bytes is 0
abbrev pub crc_of : List ℕ → ℕ
crc_of s = crc 0 s
