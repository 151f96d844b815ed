-- `layout::put_head` meets its contract. The invariant: the first k words stand there. Assumes nothing.
use mathlib.Core.Path.{◌≡◌, refl, ◌∙◌}
use Prim.Native.Nat.{◌*◌}
use native.Mathlib.Omega.{arith}
use lib.ListN.{length}
use lib.Seq.{take_all}
use borrow.Author.Rules.{rules}
use Rattle.picture.proofs.Patches.{patch-none}
use Rattle.words.specs.Word.{word_bytes}
use Rattle.words.proofs.Each.{each_step}
use Rattle.layout.proofs.put_head.Goals as goal

pub loop-k-init : goal.loop-k-init
loop-k-init c = patch-none c.args.out.now 0

pub loop-k-preserved : goal.loop-k-preserved
loop-k-preserved c =
    let l = c.loop-k in
    let n : length c.args.ws ≡ 16 = search rules in
    each_step word_bytes 4 (λ w. refl) c.args.ws 0 c.args.out.now l.out _ 0 l.k (4 * l.k) (omega arith) (omega arith) (omega arith) l.invariant
    c.put_word.ensures

pub returns : goal.returns
returns c =
    let l = c.loop-k in
    let n : length c.args.ws ≡ 16 = search rules in
    l.invariant ∙ rw (take_all l.k c.args.ws (omega arith))
