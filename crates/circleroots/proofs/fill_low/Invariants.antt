-- `circleroots::fill_low` meets its contract. Assumes nothing.
use Rattle.std.proofs.Common.{◌≡◌, ℕ, ◌%◌, ◌<◌, length, get_or}
use Rattle.circleroots.specs.Squares.{square_of}
use Rattle.circleroots.proofs.fill_low.Given as goal

abbrev pub invariant-loop-i : goal.invariant-loop-i
invariant-loop-i l = (length l.l-items ≡ l.w) × ((k : ℕ) → k < l.i → get_or l.l-items k 0 ≡ square_of l.c.x k % 4294967296)
