-- `axisrows::horizontal_with` meets its contract: so many rows of the entries are the strip.
use Rattle.std.proofs.Common.{◌≡◌, sym, ap, ◌∙◌, ◌-◌, length}
use Rattle.picture.specs.Picture.{row, copies, strip, patched}
use Rattle.line.specs.declared.Line.TheVariants as L
use Rattle.rows.specs.Pixel.{ramp_pixel}
use Rattle.axisrows.specs.Axis.{by_column}
use Rattle.axisrows.proofs.Axis.{horizontal-strip}
use Rattle.axisrows.proofs.horizontal_with.Goals as goal
use Rattle.axisrows.proofs.horizontal_with.Goals.{After-fill_spaced}

drawn : (c : After-fill_spaced)
    → patched c.args.buf.now 0 (copies (c.args.z.b - c.args.z.a) (row (by_column c.fill_spaced.new.t c.args.v.left c.args.z.w) c.args.z.w 0))
    ≡ patched c.args.buf.now 0 (strip (ramp_pixel c.args.ramp.now (L.Straight c.args.v) c.args.z.w c.args.z.h) c.args.z.w c.args.z.a c.args.z.b)
drawn c =
    let a = c.args in
    let p = c.requires in
    let f = c.fill_spaced in
    let n : length f.new.t ≡ a.z.w = f.ensures.1 ∙ p.0 in
    ap (patched a.buf.now 0)
    (sym (horizontal-strip a.ramp.now a.v a.z.w a.z.h p.1.placed.sound f.new.t p.2 n f.ensures.0 a.z.a a.z.b p.1.rows.within))

pub returns-then-z-le-SMALL_SIDE : goal.returns-then-z-le-SMALL_SIDE
returns-then-z-le-SMALL_SIDE c = c.draw_rows.ensures ∙ drawn (goal.at.returns-then-z-le-SMALL_SIDE c).After-fill_spaced

pub returns-else-z-le-SMALL_SIDE : goal.returns-else-z-le-SMALL_SIDE
returns-else-z-le-SMALL_SIDE c = c.draw_rows-else-z-le-SMALL_SIDE.ensures ∙ drawn (goal.at.returns-else-z-le-SMALL_SIDE c).After-fill_spaced
