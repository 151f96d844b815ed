-- `layout::put_stops` meets its contract. The invariant: the places before `place` stand there. Assumes nothing.
use mathlib.Core.Path.{◌≡◌, refl, ◌∙◌}
use Prim.Native.Nat.{◌+◌, ◌*◌}
use native.Mathlib.Omega.{arith}
use lib.ListN.{length}
use lib.Seq.{take_all}
use borrow.Author.Rules.{rules}
use Rattle.picture.proofs.Patches.{patch-none}
use Rattle.words.specs.Word.{word_bytes}
use Rattle.words.proofs.Each.{each_step, each-each}
use Rattle.gradient.specs.Blank.{blank_stop}
use Rattle.gradient.proofs.Lists.{unmapped}
use Rattle.layout.specs.Words.{stop_words}
use Rattle.layout.proofs.Writes.{stop_bytes}
use Rattle.layout.proofs.put_stops.Goals as goal

pub loop-place-init : goal.loop-place-init
loop-place-init c = patch-none c.args.out.now 64

pub loop-place-preserved : goal.loop-place-preserved
loop-place-preserved c =
    let l = c.loop-place in
    let n : length c.args.stops ≡ 16 = search (unmapped, rules) in
    each_step stop_bytes 16 (λ s. refl) c.args.stops blank_stop c.args.out.now l.out _ 64 l.place (64 + 16 * l.place) (omega arith) (omega arith) (omega arith) l.invariant
    c.put_stop.ensures

pub returns : goal.returns
returns c =
    let l = c.loop-place in
    let n : length c.args.stops ≡ 16 = search (unmapped, rules) in
    l.invariant ∙ rw (take_all l.place c.args.stops (omega arith), each-each word_bytes stop_words c.args.stops)
