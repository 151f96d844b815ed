-- `axisrows::vertical_with` meets its contract: the rows of the entries are the strip.
use Rattle.std.proofs.Common.{◌≡◌, ap, ◌∙◌, ℕ, ◌+◌, ◌-◌, ◌*◌, length}
use Rattle.picture.specs.Picture.{patched}
use Rattle.axisrows.proofs.Axis.{vertical-strip}
use Rattle.axisrows.proofs.vertical_with.Goals as goal

pub returns : goal.returns
returns c =
    let a = c.args in
    let p = c.requires in
    let f = c.fill_spaced in
    let n : length f.new.t ≡ a.z.b - a.z.a = f.ensures.1 ∙ p.0 in
    c.draw_strip.ensures
    ∙ ap (patched a.buf.now 0)
    (vertical-strip a.ramp.now a.v a.z.w a.z.h p.1.placed.sound f.new.t p.2 a.z.a a.z.b _ n
    (ap (λ (k : ℕ). 32 + 64 * k) c.first.ensures.0) f.ensures.0 p.1.rows.within)
