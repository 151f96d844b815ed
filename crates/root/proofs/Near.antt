-- A root that is tried by one unsigned test: x − b² wrapped at 2^64 is at most 2b only where it did not wrap, since b² + 2b is below 2^64.
-- Assumes nothing.
use Rattle.std.proofs.Common.{◌≡◌, ℕ, ◌+◌, ◌-◌, ◌*◌, ◌%◌, ◌<◌, ◌≤◌, mul-le-mul, arith}
use Rattle.root.specs.Root.{root_of}
use Rattle.root.proofs.Laws.{root-eq}

pub square_le : (b : ℕ) → b < 4294967296 → b * b ≤ 18446744065119617025
square_le b s = let h : b ≤ 4294967295 = omega arith in omega (arith, mul-le-mul h h)

pub exact-is : (x b t : ℕ) → (t + b * b) % 18446744073709551616 ≡ x → b < 4294967296 → t ≤ 2 * b → b ≡ root_of 1 x
exact-is x b t w s h =
    let e : x ≡ t + b * b = omega (arith, square_le b s) in
    root-eq 1 x b (omega arith) (rw e (record { low = omega arith; high = omega arith }))

-- the same with the difference as `wrapping_sub` gives it
pub wrapped_is : (x b : ℕ) → x < 18446744073709551616 → b < 4294967296 → (x + (18446744073709551616 - b * b)) % 18446744073709551616 ≤ 2 * b → b ≡ root_of 1 x
wrapped_is x b f s h = exact-is x b _ (omega (arith, square_le b s)) s h
