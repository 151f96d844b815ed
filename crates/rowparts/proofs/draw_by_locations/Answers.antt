-- `rowparts::draw_by_locations` meets its contract. Assumes nothing.
use Rattle.std.proofs.Common.{◌≡◌, ℕ, ◌+◌, ◌*◌, List, refl, ap, ◌∙◌, arith}
use Rattle.line.specs.declared.Line.TheVariants as L
use Rattle.words.specs.Word.{word_bytes}
use Rattle.ramp.specs.Ramp.{color_in}
use Rattle.picture.specs.Picture.{patched}
use Rattle.picture.proofs.Rows.{part_none}
use Rattle.picture.proofs.Patches.{patch-none}
use Rattle.picture.proofs.Turns.{part_step}
use Rattle.rows.specs.Pixel.{ramp_pixel}
use Rattle.rows.proofs.Pixels.{four}
use Rattle.rowparts.proofs.draw_by_locations.Goals as goal

pub loop-k-init : goal.loop-k-init
loop-k-init c = rw part_none (patch-none c.args.buf.now c.args.at)

pub loop-k-preserved : goal.loop-k-preserved
loop-k-preserved c =
    let a = c.args in
    let l = c.loop-k in
    let o : ℕ = a.at + 4 * l.k in
    let px : (ℕ → ℕ → List ℕ) = ramp_pixel a.ramp.now (L.Straight a.v) a.z.w a.z.h in
    let e : c.put_word.new.buf ≡ patched l.buf o (px (a.i + l.k) a.j) =
    c.put_word.ensures ∙ ap (λ (n : ℕ). patched l.buf o (word_bytes n)) (c.color_near.ensures ∙ ap (color_in a.ramp.now) (rw c.location-s.ensures at c.from.ensures)) in
    part_step px (four a.ramp.now (L.Straight a.v) a.z.w a.z.h) a.buf.now l.buf _ a.at o a.i l.k a.j refl (omega arith) l.invariant e
