-- `table::LentStops::color_of` meets its contract. Assumes nothing.
use mathlib.Core.Path.{◌∙◌}
use Rattle.table.proofs.Packing.{entry-is}
use Rattle.table.proofs.lent.LentStops.color_of.Goals as goal

pub returns : goal.returns
returns c =
    c.pack.ensures ∙ entry-is c.args.self.positions.now c.args.self.values.now c.args.self.lent _ c.args.at c.color_at.ensures
