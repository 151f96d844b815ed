-- `tokens::value_of` meets its contract. The invariant: the digits that are left write from the value on what all of them write, cut off.
-- Assumes nothing.
use mathlib.Core.Path.{◌≡◌}
use Prim.Native.Nat.{◌≤◌, min}
use lib.ListN.{drop}
use Rattle.tokens.specs.Number.{decimal}
use Rattle.tokens.proofs.value_of.Given as goal

abbrev pub invariant-loop-b : goal.invariant-loop-b
invariant-loop-b l = record {
  small : l.value ≤ 1000000;
  same : min (decimal l.value (drop l.b-index l.digits)) 1000000 ≡ min (decimal 0 l.digits) 1000000;
}
