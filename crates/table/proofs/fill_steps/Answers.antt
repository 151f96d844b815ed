-- `table::fill_steps` meets its contract. The invariant: the colors stand from `at` up to k, and the walks are there. Assumes nothing.
use mathlib.Core.Path.{◌≡◌, ◌∙◌}
use Prim.Native.Nat.{◌≤◌, ◌<◌}
use native.Mathlib.Omega.{arith}
use lib.ListN.{length, length-set}
use Rattle.table.proofs.Stores.{stored_more}
use Rattle.table.proofs.Walked.{reached-fits, reached-further, reached-color}
use Rattle.table.proofs.fill_steps.Goals as goal

pub loop-k-preserved : goal.loop-k-preserved
loop-k-preserved c =
    let b = c.args in
    let l = c.loop-k in
    let m : l.k < b.end = omega arith in
    let n : b.at ≤ l.k = omega arith in
    let o : b.end ≤ length l.t = omega arith in (
      λ vs i g s x a h sp st.
          let f : a ≤ l.k = omega (arith, h, n) in
          let p = l.invariant.0 vs i g s x a h sp st in
          let r = p.1 m in (
            stored_more _ b.at l.k _ b.t.now l.t n (omega (arith, m, o)) (c.pack.ensures ∙ reached-color vs i g s x a b.end l.k l.w f sp r m _ c.mixed.ensures) p.0,
            λ z. reached-further vs i g s x a b.end l.k l.w f sp r 1 z _ (λ d. c.next-w.ensures d (reached-fits vs i g s x a b.end l.k l.w f sp r 1 z d)),
          ),
      simp length-set (omega arith),
    )

pub returns : goal.returns
returns c = λ vs i g s x a h sp st.
    let e : c.loop-k.k ≡ c.args.end = omega arith in
    rw e at (c.loop-k.invariant.0 vs i g s x a h sp st).0
