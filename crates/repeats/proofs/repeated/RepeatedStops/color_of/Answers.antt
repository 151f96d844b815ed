-- `repeats::RepeatedStops::color_of` meets its contract. Assumes nothing.
use mathlib.Core.Path.{◌∙◌}
use Rattle.repeats.proofs.Periods.{moved-color}
use Rattle.repeats.proofs.repeated.RepeatedStops.color_of.Goals as goal

pub returns : goal.returns
returns c =
    c.color_of.ensures ∙ moved-color c.args.self.stops.positions.now c.args.self.stops.values.now c.args.self.periodic c.args.at _ c.moved.ensures.0
