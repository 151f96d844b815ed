-- The rules of the table of sines, by one test that antt computes over the table, and what the callers use of two entries.
-- Assumes nothing.
use mathlib.Core.Path.{◌≡◌, refl}
use mathlib.Core.Bool.{Bool, true, ◌&&◌, ◌||◌}
use Prim.Native.Nat.{ℕ, ◌+◌, ◌*◌, ◌-◌, ◌^◌, ◌≤◌, ◌<◌}
use native.Mathlib.Nat.{mul-le-mul, add-sub_of_le}
use native.Mathlib.Decide.{dec_le}
use native.Mathlib.Omega.{arith}
use lib.Dec.{leb}
use lib.ListN.{length}
use borrow.Author.Tests.{leb-true, lt-leb}
use Rattle.sine.specs.Sines.{sines, sine_of, AtMostApart, Rules, Parts}
use Rattle.sine.proofs.Table.{both, every, at}

within : ℕ → ℕ → ℕ → Bool
within d a b = leb (a - b + (b - a)) d

within-is : {d a b : ℕ} → within d a b ≡ true → AtMostApart d a b
unfolding within
within-is {d} {a} {b} e =
    let h = leb-true (a - b + (b - a)) d e in
    record { up = omega arith; down = omega arith }

-- the rules at a place k, whose entry is s: c is the entry at 360 - k, n the one at k + 1
circle-ok : ℕ → ℕ → Bool
circle-ok s c = within 24000 (s * s + c * c) (2 ^ 28)

turn-ok : ℕ → ℕ → ℕ → Bool
turn-ok s c n = within 32768 (16384 * n) (s * sine_of 359 + c * sine_of 1)

next-ok : ℕ → ℕ → ℕ → Bool
next-ok s c n = leb s n && (within 72 s n && turn-ok s c n)

test : ℕ → ℕ → Bool
test k s =
    let c = sine_of (360 - k) in
    circle-ok s c && (leb 360 k || next-ok s c (sine_of (k + 1)))

-- the one test over the whole table
passed : every test 0 sines ≡ true
unfolding test circle-ok turn-ok next-ok within sine_of sines
passed = refl

pub entries : length sines ≡ 361
unfolding sines
entries = refl

ends : (sine_of 0 ≡ 0) × (sine_of 120 ≡ 8192) × (sine_of 360 ≡ 16384)
unfolding sine_of sines
ends = (refl, refl, refl)

module _ (k : ℕ) where
  -- the test at the place k, taken apart
  here : k ≤ 360 → (circle-ok (sine_of k) (sine_of (360 - k)) ≡ true)
      × ((leb 360 k || next-ok (sine_of k) (sine_of (360 - k)) (sine_of (k + 1))) ≡ true)
  unfolding sine_of test
  here h = both (at test sines passed k (omega (arith, entries)))

  next : k < 360 → (leb (sine_of k) (sine_of (k + 1)) ≡ true)
      × ((within 72 (sine_of k) (sine_of (k + 1)) && turn-ok (sine_of k) (sine_of (360 - k)) (sine_of (k + 1))) ≡ true)
  unfolding next-ok
  next h = both (rw (lt-leb 360 k h) at (here (omega arith)).1)

pub rules : Rules
unfolding circle-ok turn-ok
rules = record {
  first = ends.0;
  half = ends.1;
  last = ends.2;
  never-falls = λ k h. leb-true _ _ (next k h).0;
  circle = λ k h. within-is (here k h).0;
  turn = λ k h. within-is (both {a = within 72 (sine_of k) (sine_of (k + 1))} (next k h).1).1;
}

-- "no two neighbours differ by more than 72" (T-09)
pub neighbors : (k : ℕ) → k < 360 → AtMostApart 72 (sine_of k) (sine_of (k + 1))
neighbors k h = within-is (both (next k h).1).0

-- twice a product is at most the sum of the two squares
squares : (a b : ℕ) → 2 * (a * b) ≤ a * a + b * b
squares a b = either (dec_le a b)
  where
    by : (x d : ℕ) → 2 * (x * (x + d)) ≤ x * x + (x + d) * (x + d)
    by x d = omega arith

    either : Dec (a ≤ b) → 2 * (a * b) ≤ a * a + b * b
    either (yes h) = rw (add-sub_of_le h) at (by a (b - a))
    either (no f) =
        let h : b ≤ a = omega arith in
        omega (arith, rw (add-sub_of_le h) at (by b (a - b)))

-- two numbers whose squares are as the rule of the circle has them
module _ (a b : ℕ) (near : AtMostApart 24000 (a * a + b * b) (2 ^ 28)) where
  most : a + b ≤ 23171
  most = either (dec_le (a + b) 23171)
    where
      either : Dec (a + b ≤ 23171) → a + b ≤ 23171
      either (yes h) = h
      either (no f) =
          let above : 23172 ≤ a + b = omega arith in
          omega (arith, mul-le-mul above above, squares a b)

  least : 0 < a + b
  least = either (dec_le 1 (a + b))
    where
      either : Dec (1 ≤ a + b) → 0 < a + b
      either (yes h) = h
      either (no f) =
          let none : a + b ≤ 0 = omega arith in
          omega (arith, mul-le-mul none none)

-- what the callers use follows from the rule of the circle
pub parts : (k : ℕ) → k ≤ 360 → Parts k
parts k h = record { sum = most _ _ (rules.circle k h); some = least _ _ (rules.circle k h) }
