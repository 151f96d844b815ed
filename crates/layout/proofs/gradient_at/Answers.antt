-- `layout::gradient_at` meets its contract. Assumes nothing.
use mathlib.Core.Path.{sym, ap}
use Prim.Native.Nat.{ℕ}
use lib.Dec.{eqb}
use Rattle.std.proofs.Common.{rules, tests}
use Rattle.words.proofs.UpTo.{up_to-all}
use Rattle.gradient.specs.Blank.{blank_stop}
use Rattle.gradient.proofs.Lists.{made-at}
use Rattle.layout.specs.Taken.{stop_at}
use Rattle.layout.proofs.Parts.{gradient-read}
use Rattle.layout.proofs.gradient_at.Goals as goal

pub returns : goal.returns
returns c =
    let s = c.args.s.now in
    gradient-read s c.shape_at.ensures (ap (λ (w : ℕ). eqb w 1) c.word_at.ensures) c.word_at-2.ensures
    (sym
    (up_to-all 16 (stop_at s) c.from_fn.result blank_stop c.from_fn.ensures.items.long
    (made-at _ _ (stop_at s) (λ i y q k. search (rules, tests)) _ 16 c.from_fn.ensures.items blank_stop)))
