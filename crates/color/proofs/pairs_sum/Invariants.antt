-- `color::pairs_sum` meets its contract. The invariant: what was summed and what is left are the whole. Assumes nothing.
use mathlib.Core.Path.{◌≡◌}
use Prim.Native.Nat.{◌+◌, ◌-◌, ◌*◌, ◌≤◌}
use Rattle.color.specs.Lent.{pairs_sum}
use Rattle.color.proofs.pairs_sum.Given as goal

abbrev pub invariant-loop-i : goal.invariant-loop-i
invariant-loop-i l = (l.sum + pairs_sum l.values l.c l.i (l.n - 1 - l.i) ≡ pairs_sum l.values l.c 0 (l.n - 1)) × (l.sum ≤ 130050 * l.i)
