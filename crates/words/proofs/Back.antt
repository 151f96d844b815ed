-- What stands in bytes is what was put: words, and signed numbers in them.
-- Assumes nothing.
use mathlib.Core.Path.{◌≡◌, refl}
use mathlib.Core.List.{List}
use Prim.Native.Nat.{ℕ, ◌+◌, ◌*◌, ◌/◌, ◌%◌, ◌^◌, ◌<◌}
use native.Mathlib.Nat.{add-zero}
use native.Mathlib.Omega.{arith}
use lib.IntN.{ℤ, pos, negsuc, nat_abs}
use lib.ListN.{length, get_or}
use mir.Syntax.{w32}
use mir.Val.{Fits, of_z, to_z}
use mir.ValLaws.{to_z-of_z, to_z-Fits}
use Rattle.words.specs.Word.{word_bytes, word_at, each}
use Rattle.words.proofs.Each.{each_at}

-- the bytes of a word are its digits
digits : (w : ℕ) → w % 256 + w / 256 % 256 * 256 + w / 65536 % 256 * 65536 + w / 16777216 * 16777216 ≡ w
digits w =
    let e₁ : w / 65536 ≡ w / 256 / 256 = omega arith in
    let e₂ : w / 16777216 ≡ w / 65536 / 256 = omega arith in
    let d₀ : w ≡ w % 256 + w / 256 * 256 = omega arith in
    let d₁ : w / 256 ≡ w / 256 % 256 + w / 65536 * 256 = omega arith in
    let d₂ : w / 65536 ≡ w / 65536 % 256 + w / 16777216 * 256 = omega arith in
    omega arith

-- the word at 4 k of the bytes of words is word k
pub word_back : (ws : List ℕ) (k : ℕ) → k < length ws → word_at (each word_bytes ws) (4 * k) ≡ get_or ws k 0
word_back ws k h =
    let b₀ = rw add-zero at (each_at word_bytes 4 (λ w. refl) ws k 0 0 0 h (omega arith)) in
    let b₁ = each_at word_bytes 4 (λ w. refl) ws k 1 0 0 h (omega arith) in
    let b₂ = each_at word_bytes 4 (λ w. refl) ws k 2 0 0 h (omega arith) in
    let b₃ = each_at word_bytes 4 (λ w. refl) ws k 3 0 0 h (omega arith) in
    rw (b₀, b₁, b₂, b₃) (digits (get_or ws k 0))

-- a signed number below 2 ^ 31 without its sign is the number of its bits
pub sized : (z : ℤ) → nat_abs z < 2 ^ 31 → to_z w32 (of_z w32 z) ≡ z
sized (pos n) h = to_z-of_z w32 (pos n) (record { sfits = h })
sized (negsuc n) h = to_z-of_z w32 (negsuc n) (record { sfits = omega arith })

-- the signed number of a word, as the word's bits again
pub kept : (w : ℕ) → Fits w32 w → (r : ℤ) → r ≡ to_z w32 w → to_z w32 (of_z w32 r) ≡ to_z w32 w
kept w f r e = rw e (to_z-of_z w32 (to_z w32 w) (to_z-Fits w32 w f))
