-- `color::pairs_sum` meets its contract. The invariant: what was summed and what is left are the whole. Assumes nothing.
use mathlib.Core.Path.{◌≡◌}
use mathlib.Core.List.{List}
use Prim.Native.Nat.{ℕ, suc, ◌+◌, ◌-◌, ◌*◌, ◌<◌}
use lib.ListN.{get_or}
use mathlib.Core.Path.{◌≡◌}
use Prim.Native.Nat.{suc, ◌+◌, ◌-◌, ◌*◌}
use native.Mathlib.Omega.{arith}
use Rattle.color.specs.Lent.{pairs_sum}
use Rattle.color.proofs.pairs_sum.Goals as goal

-- the first of the pairs that are left, and none left
first-pair : (vs : List ℕ) (c i n : ℕ) → i + 1 < n
    → pairs_sum vs c i (n - 1 - i) ≡ get_or vs (4 * i + c) 0 + get_or vs (4 * (i + 1) + c) 0 + pairs_sum vs c (i + 1) (n - 1 - (i + 1))
unfolding pairs_sum
first-pair vs c i n h =
    let e : n - 1 - i ≡ suc (n - 1 - (i + 1)) = omega arith in
    rw e

no-pair : (vs : List ℕ) (c i n : ℕ) → n ≡ 0 → pairs_sum vs c i n ≡ 0
unfolding pairs_sum
no-pair vs c i n e = rw e

pub loop-i-preserved : goal.loop-i-preserved
loop-i-preserved c =
    let i = c.loop-i.i in
    let small = c.requires.4 in (
      omega (arith, first-pair c.args.values.now c.args.c i c.args.n (omega arith), c.loop-i.invariant.0),
      omega (arith, small (4 * i + c.args.c), small (4 * (i + 1) + c.args.c)),
    )

pub returns : goal.returns
returns c =
    let l = c.loop-i in
    (omega (arith, l.invariant.0, no-pair c.args.values.now c.args.c l.i (c.args.n - 1 - l.i) (omega arith)), omega arith)
