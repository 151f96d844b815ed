-- `strips::draw_sections` meets its contract. The invariant: the first i columns are drawn. Assumes nothing.
use mathlib.Core.Path.{◌≡◌, refl, sym, ap, ◌∙◌}
use native.Mathlib.Omega.{arith}
use Rattle.line.specs.declared.Line.TheVariants as L
use Rattle.picture.specs.Picture.{patched}
use Rattle.rows.specs.Pixel.{ramp_pixel}
use Rattle.straight.specs.Begun.{standing}
use Rattle.straight.proofs.Columns.{begun-alike, columns-none, columns-all}
use Rattle.strips.proofs.Handed.{same-pixels}
use Rattle.strips.proofs.draw_sections.Goals as goal

pub loop-i-init : goal.loop-i-init
loop-i-init c =
    let a = c.args in
    let p = c.requires.0 in (
      columns-none (ramp_pixel a.stops.now (L.Straight a.v) a.z.w a.z.h) a.buf.now 0 a.z.w a.z.a a.z.b (omega (arith, p.rows.room)) p.placed.box.some-width,
      omega arith,
      refl,
      refl,
    )

pub loop-i-preserved : goal.loop-i-preserved
loop-i-preserved c =
    let a = c.args in
    let l = c.loop-i in
    let like = c.set_table.ensures in
    let same = same-pixels a.stops.now _ like (L.Straight a.v) a.z.w a.z.h in
    let before = begun-alike (ramp_pixel a.stops.now (L.Straight a.v) a.z.w a.z.h) _ (standing a.buf.now 0 a.z.w a.z.a) (λ i j. sym (same i j)) a.z.w a.z.a a.z.b l.i a.buf.now 0 l.buf l.invariant.0 in
    let after = c.draw_tiles.ensures (standing a.buf.now 0 a.z.w a.z.a) a.buf.now (λ k j. refl) (sym l.invariant.3) before in (
      begun-alike _ (ramp_pixel a.stops.now (L.Straight a.v) a.z.w a.z.h) _ same a.z.w a.z.a a.z.b _ a.buf.now 0 _ after,
      omega arith,
      omega arith,
      omega arith,
    )

pub returns : goal.returns
returns c =
    let a = c.args in
    let e : c.loop-i.i ≡ a.z.w = omega arith in
    rw e at c.loop-i.invariant.0 ∙ ap (patched a.buf.now 0) (columns-all (ramp_pixel a.stops.now (L.Straight a.v) a.z.w a.z.h) _ a.z.w a.z.a a.z.b)
