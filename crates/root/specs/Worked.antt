-- Roots and numbers of digits worked out by computation, up to the largest 64-bit number.
-- Assumes nothing.
use Rattle.std.specs.Prelude.{◌≡◌, ◌-◌, ◌^◌, refl}
use Rattle.root.specs.Root.{root_of, root_in}
use Rattle.root.specs.Digits.{digits_of, digits_in}

-- just below a square, at it, and with n above 1
small : (root_of 1 24 ≡ 4) × (root_of 1 25 ≡ 5) × (root_of 3 74 ≡ 4) × (root_of 3 75 ≡ 5)
unfolding root_of root_in
small = (refl, refl, refl, refl)

largest : (root_of 1 (2 ^ 63) ≡ 3037000499) × (root_of 1 (2 ^ 64 - 1) ≡ 4294967295)
unfolding root_of root_in
largest = (refl, refl)

-- none for 0; 1; 10 and 11; 100; and eight ones
digits : (digits_of 0 ≡ 0) × (digits_of 1 ≡ 1) × (digits_of 2 ≡ 2) × (digits_of 3 ≡ 2) × (digits_of 4 ≡ 3) × (digits_of 255 ≡ 8)
unfolding digits_of digits_in
digits = (refl, refl, refl, refl, refl, refl)

-- the rounds for 0, 1, 3 and 4, and the most that there are
rounds :
    (digits_of (root_of 1 0) ≡ 0) × (digits_of (root_of 1 1) ≡ 1) × (digits_of (root_of 1 3) ≡ 1) × (digits_of (root_of 1 4) ≡ 2) × (digits_of (root_of 1 (2 ^ 64 - 1)) ≡ 32)
unfolding digits_of digits_in root_of root_in
rounds = (refl, refl, refl, refl, refl)
