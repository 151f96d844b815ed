-- `axisrows::Entries::draw_strip` meets its contract: a row is put behind those that stand there.
use Rattle.std.proofs.Common.{refl, sym, ap, ◌∙◌, rules, List, ℕ, ◌-◌, ◌*◌, get_or}
use Rattle.picture.specs.Picture.{copies}
use Rattle.picture.proofs.Rows.{strip-none, row-copies}
use Rattle.picture.proofs.Patches.{patch-none}
use Rattle.words.specs.Word.{word_bytes}
use Rattle.rows.proofs.Pixels.{rows-turn}
use Rattle.axisrows.specs.Axis.{from_start, by_row}
use Rattle.axisrows.proofs.Entries.draw_strip.Goals as goal

pub loop-j-init : goal.loop-j-init
loop-j-init c = record { rows = rw strip-none (patch-none c.args.buf.now 0); len = refl }

pub loop-j-preserved : goal.loop-j-preserved
loop-j-preserved c =
    let a = c.args in
    let z = a.self in
    let l = c.loop-j in
    let px : (ℕ → ℕ → List ℕ) = by_row z.table.now z.back a.a a.b in
    let e = ap (λ (x : ℕ). copies a.w (word_bytes x)) (c.entry_of.ensures ∙ ap (λ (m : ℕ). get_or z.table.now (from_start z.back m (l.j - a.a)) 0) c.requires.1) ∙ sym (row-copies px a.w l.j (px 0 l.j) (λ i m. refl)) in
    record {
      rows = rows-turn px (λ i j. refl) a.w a.a a.b l.j (4 * a.w * (l.j - a.a)) a.buf.now l.buf _ _ l.auto.j c.loop-j-test.true refl c.requires.3 l.invariant.rows e c.fill_words.ensures;
      len = search rules;
    }
