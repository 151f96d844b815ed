-- `table::color_in` meets its contract. Assumes nothing.
use mathlib.Core.Path.{◌∙◌}
use Rattle.table.proofs.Stretches.{stretched-color}
use Rattle.table.proofs.color_in.Goals as goal

pub returns : goal.returns
returns c = λ color h.
    c.pack.ensures ∙ stretched-color color c.args.t h c.args.n c.requires.1 c.leap.result c.leap.ensures _ c.mixed.ensures
