-- `table::place_above` meets its contract. The invariant: the first i positions are at or below `at`. Assumes nothing.
use Prim.Native.Nat.{ℕ, ◌≤◌, ◌<◌}
use lib.ListN.{get_or}
use Rattle.table.proofs.place_above.Given as goal

abbrev pub invariant-loop-i : goal.invariant-loop-i
invariant-loop-i l = (m : ℕ) → m < l.i → get_or l.positions m 0 ≤ l.at
