-- `axisrows::fill_words` meets its contract: the word is put behind those that stand there.
use Rattle.std.proofs.Common.{refl, rules, ◌+◌, ◌*◌, List, ℕ, arith}
use Rattle.picture.specs.Picture.{joined, copies}
use Rattle.picture.proofs.Rows.{copies_length, copies-more}
use Rattle.picture.proofs.Patches.{patch-none, patch-step}
use Rattle.words.specs.Word.{word_bytes}
use Rattle.axisrows.proofs.fill_words.Goals as goal

pub loop-i-init : goal.loop-i-init
unfolding joined
loop-i-init c = record { filled = patch-none c.args.buf.now c.args.at; len = refl }

pub loop-i-preserved : goal.loop-i-preserved
loop-i-preserved c =
    let a = c.args in
    let l = c.loop-i in
    let s : List ℕ = word_bytes a.c in
    record {
      filled = rw copies-more (patch-step a.buf.now (copies l.i s) s l.buf _ a.at (a.at + 4 * l.i) (rw copies_length (omega arith)) (omega arith) l.invariant.filled c.put_word.ensures);
      len = search rules;
    }
