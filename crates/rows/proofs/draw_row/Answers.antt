-- `rows::draw_row` meets its contract. The invariant: the first i pixels of the row stand from `at` on. Assumes nothing.
use mathlib.Core.Path.{◌≡◌, refl, ap, ◌∙◌}
use mathlib.Core.List.{List}
use Prim.Native.Nat.{ℕ, ◌+◌, ◌*◌}
use native.Mathlib.Omega.{arith}
use Rattle.picture.specs.Picture.{row, patched}
use Rattle.picture.proofs.Rows.{row-none, row_more, row-length}
use Rattle.picture.proofs.Patches.{patch-none, patch-step}
use Rattle.words.specs.Word.{word_bytes}
use Rattle.ramp.specs.Ramp.{color_in}
use Rattle.rows.specs.Pixel.{ramp_pixel}
use Rattle.rows.proofs.Pixels.{four}
use Rattle.rows.proofs.draw_row.Goals as goal

pub loop-i-init : goal.loop-i-init
loop-i-init c = (rw row-none (patch-none c.args.buf.now c.args.at), refl)

pub loop-i-preserved : goal.loop-i-preserved
loop-i-preserved c =
    let a = c.args in
    let l = c.loop-i in
    let px : (ℕ → ℕ → List ℕ) = ramp_pixel a.ramp.now a.l a.w a.h in
    let o : ℕ = a.at + 4 * l.i in
    let e : c.put_word.new.buf ≡ patched l.buf o (px l.i a.j) =
    c.put_word.ensures
    ∙ ap (λ (x : ℕ). patched l.buf o (word_bytes x)) (c.color_by_stops.ensures ∙ ap (color_in a.ramp.now) c.locate-s.ensures) in (
      rw row_more (patch-step a.buf.now (row px l.i a.j) (px l.i a.j) l.buf _ a.at o
          (rw (row-length px (four a.ramp.now a.l a.w a.h)) (omega arith)) (omega arith) l.invariant.0 e),
      omega arith,
    )
