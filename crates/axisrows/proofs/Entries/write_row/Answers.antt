-- `axisrows::Entries::write_row` meets its contract: a pixel is put behind those that stand there.
use Rattle.std.proofs.Common.{refl, ap, ◌∙◌, rules, List, ℕ, ◌+◌, ◌*◌, arith}
use Rattle.picture.specs.Picture.{row, patched}
use Rattle.picture.proofs.Rows.{row-none, row_more, row-length}
use Rattle.picture.proofs.Patches.{patch-none, patch-step}
use Rattle.words.specs.Word.{word_bytes}
use Rattle.axisrows.specs.Axis.{by_column}
use Rattle.axisrows.proofs.Entries.write_row.Goals as goal

pub loop-i-init : goal.loop-i-init
loop-i-init c = record { pixels = rw row-none (patch-none c.args.bytes.now c.args.at); len = refl }

pub loop-i-preserved : goal.loop-i-preserved
loop-i-preserved c =
    let a = c.args in
    let l = c.loop-i in
    let px : (ℕ → ℕ → List ℕ) = by_column a.self.table.now a.self.back a.self.n in
    let o : ℕ = a.at + 4 * l.i in
    let e = c.put_word.ensures ∙ ap (λ (x : ℕ). patched l.bytes o (word_bytes x)) c.entry_of.ensures in
    record {
      pixels = rw row_more (patch-step a.bytes.now (row px l.i 0) (px l.i 0) l.bytes _ a.at o (rw (row-length px (λ i j. refl)) (omega arith)) (omega arith) l.invariant.pixels e);
      len = search rules;
    }
