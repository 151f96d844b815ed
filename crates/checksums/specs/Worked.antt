-- Known checksums, by computation.
-- Assumes nothing.
use Rattle.std.specs.Prelude.{◌≡◌, refl, [], ◌∷◌}
use Rattle.checksums.specs.Crc.{bit_step, bits, byte_step, register, crc, crc_of}
use Rattle.checksums.specs.Adler.{sums, adler, adler_of}

-- 123456789: 0xcbf43926
nine-digits : crc_of (49 ∷ 50 ∷ 51 ∷ 52 ∷ 53 ∷ 54 ∷ 55 ∷ 56 ∷ 57 ∷ []) ≡ 3421780262
unfolding bit_step bits byte_step register crc
nine-digits = refl

-- Wikipedia: 0x11e60398
wikipedia : adler_of (87 ∷ 105 ∷ 107 ∷ 105 ∷ 112 ∷ 101 ∷ 100 ∷ 105 ∷ 97 ∷ []) ≡ 300286872
unfolding sums adler
wikipedia = refl

-- the end of every PNG file, the chunk IEND: 0xae426082
end : crc_of (73 ∷ 69 ∷ 78 ∷ 68 ∷ []) ≡ 2923585666
unfolding bit_step bits byte_step register crc
end = refl
