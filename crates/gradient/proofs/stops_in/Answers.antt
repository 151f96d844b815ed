-- `gradient::stops_in` meets its contract: the chain asks every stop of the list. Assumes nothing.
use mathlib.Core.Path.{◌∙◌}
use Rattle.std.proofs.Common.{rules, tests}
use Rattle.std.proofs.lemmas.Iterator.{YieldsList-from_slice}
use Rattle.std.proofs.lemmas.Iterator.Search.{all_from_yields_List}
use Rattle.gradient.specs.Range.{stop_in}
use Rattle.gradient.specs.Check.{stops_of, stops_in}
use Rattle.gradient.proofs.Lists.{all-listed}
use Rattle.gradient.proofs.stops_in.Goals as goal

pub returns : goal.returns
unfolding stops_in
returns c =
    all_from_yields_List stop_in _ _ _ c.all.ensures.ran
    (YieldsList-from_slice (stops_of c.args.g) cc)
    (λ x b q k. search (rules, tests))
    ∙ all-listed stop_in (stops_of c.args.g)
