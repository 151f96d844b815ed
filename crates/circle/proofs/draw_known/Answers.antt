-- `circle::draw_known` meets its contract. Assumes nothing.
use mathlib.Core.Path.{refl, ap, ◌∙◌}
use Prim.Native.Nat.{ℕ, ◌+◌, ◌-◌, ◌*◌}
use native.Mathlib.Omega.{arith}
use lib.ListN.{get_or}
use Rattle.words.specs.Word.{word_bytes}
use Rattle.picture.specs.Picture.{patched}
use Rattle.picture.proofs.Rows.{row-none}
use Rattle.picture.proofs.Patches.{patch-none}
use Rattle.picture.proofs.Turns.{pixel-step}
use Rattle.rows.specs.Pixel.{pixel_by}
use Rattle.circle.proofs.draw_known.Goals as goal

pub loop-i-init : goal.loop-i-init
loop-i-init c = λ color rule j t e. rw row-none (patch-none c.args.buf.now c.args.at)

pub loop-i-preserved : goal.loop-i-preserved
loop-i-preserved c = λ color rule j table each.
    let a = c.args in
    let l = c.loop-i in
    let o : ℕ = a.at + 4 * l.i in
    let s : ℕ = get_or a.known.now l.i 0 in
    let low = c.requires.0.low l.i (omega arith) in
    let high = c.requires.0.high l.i (omega arith) in
    pixel-step (pixel_by rule color) (λ i k. refl) a.buf.now l.buf c.put_word.new.buf a.at o l.i j refl (omega arith)
    (l.invariant color rule j table each)
    (c.put_word.ensures ∙ ap (λ (n : ℕ). patched l.buf o (word_bytes n)) (table (s - a.base) (omega arith) ∙ ap color (omega arith) ∙ ap color (each l.i (omega arith))))
