-- `circle::draw_row` meets its contract. Assumes nothing.
use mathlib.Core.Path.{◌≡◌, refl, ap, ◌∙◌}
use mathlib.Core.List.{List}
use Prim.Native.Nat.{ℕ, ◌+◌, ◌*◌}
use native.Mathlib.Omega.{arith}
use Rattle.line.specs.Location.{location_by}
use Rattle.line.specs.Circle.{circle_rule}
use Rattle.line.specs.Represented.{center_in}
use Rattle.line.specs.declared.Line.TheVariants as L
use Rattle.words.specs.Word.{word_bytes}
use Rattle.ramp.specs.Ramp.{color_in}
use Rattle.picture.specs.Picture.{row, patched}
use Rattle.picture.proofs.Rows.{row-none, row_more, row-length}
use Rattle.picture.proofs.Patches.{patch-none, patch-step}
use Rattle.rows.specs.Pixel.{ramp_pixel}
use Rattle.rows.proofs.Pixels.{four}
use Rattle.circleroots.proofs.Columns.{filled-set}
use Rattle.circle.proofs.draw_row.Goals as goal

pub loop-i-init : goal.loop-i-init
loop-i-init c = (rw row-none (patch-none c.args.buf.now c.args.at), record { at = λ k h. absurd (omega arith) })

pub loop-i-preserved : goal.loop-i-preserved
loop-i-preserved c =
    let a = c.args in
    let l = c.loop-i in
    let o : ℕ = a.at + 4 * l.i in
    let px : (ℕ → ℕ → List ℕ) = ramp_pixel a.ramp.now (L.Circle a.c) a.z.w a.z.h in
    let q = c.location-s in
    let e : c.put_word.new.buf ≡ patched l.buf o (px l.i a.j) =
    c.put_word.ensures ∙ ap (λ (n : ℕ). patched l.buf o (word_bytes n)) (c.color.ensures ∙ ap (color_in a.ramp.now) ((rw q.ensures at c.from.ensures))) in (
      rw row_more (patch-step a.buf.now (row px l.i a.j) (px l.i a.j) l.buf _ a.at o
          (rw (row-length px (four a.ramp.now (L.Circle a.c) a.z.w a.z.h)) refl) (omega arith) l.invariant.0 e),
      record { at = filled-set (λ (k : ℕ). location_by (circle_rule (center_in a.c)) k a.j) l.i l.guesses q.result q.ensures (omega arith) l.invariant.1.at },
    )
