-- `table::fill_even` meets its contract. Assumes nothing.
use mathlib.Core.Path.{◌∙◌}
use Prim.Native.Nat.{◌+◌, ◌-◌, ◌<◌}
use native.Mathlib.Omega.{arith}
use Rattle.table.proofs.Stores.{stored_same}
use Rattle.table.proofs.Walked.{reached-color, reached-steady, reached-past}
use Rattle.table.proofs.fill_even.Goals as goal

pub returns-then-alike : goal.returns-then-alike
returns-then-alike c = λ vs i g s x a h sp r.
    let b = c.args in
    let v = c.leap-last.result in
    let e = c.leap-last.ensures in
    let some : 0 < b.n = c.requires.0 in
    let l : b.at + (b.n - 1) < b.at + b.n = omega (arith, some) in (
      stored_same _ _ b.at (b.at + b.n) b.t.now _
          (λ k m n. c.pack.ensures
          ∙ reached-color vs i g s x a (b.at + b.n) b.at b.w h sp r (omega (arith, some)) _ c.mixed.ensures
          ∙ reached-steady vs i g s x a (b.at + b.n) b.at b.w h sp r (b.n - 1) l v e (c.alike.ensures c.if-alike.true) k m (omega (arith, n)))
          c.fill_flat.ensures,
      reached-past b.n (b.n - 1) (omega (arith, some)) vs i g s x a b.at (b.at + b.n + 1) (omega arith) b.w v _ h r e c.next.ensures,
    )

pub returns : goal.returns
returns c = λ vs i g s x a h sp r.
    let b = c.args in (
      c.fill_steps.ensures vs i g s x a h sp (λ _. r),
      reached-past b.n (b.n - 1) (omega (arith, c.requires.0)) vs i g s x a b.at (b.at + b.n + 1) (omega arith) b.w c.leap-last.result _ h r c.leap-last.ensures c.next-2.ensures,
    )
