-- `strips::with_room` meets its contract. Assumes nothing.
use mathlib.Core.Path.{ap, ◌∙◌}
use Rattle.picture.specs.Picture.{patched}
use Rattle.strips.proofs.Handed.{same-strip}
use Rattle.strips.proofs.with_room.Goals as goal

pub returns : goal.returns
returns g c =
    let a = c.args in
    c.draw_ready.ensures ∙ ap (patched a.buf.now 0) (same-strip a.stops.now _ c.set_table.ensures a.l a.z)
