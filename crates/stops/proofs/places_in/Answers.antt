-- `stops::places_in` meets its contract: the chain asks every stop of the list. Assumes nothing.
use mathlib.Core.Path.{◌∙◌}
use Rattle.std.proofs.Common.{rules, tests}
use Rattle.std.proofs.lemmas.Iterator.{YieldsList-from_slice}
use Rattle.std.proofs.lemmas.Iterator.Search.{all_from_yields_List}
use Rattle.gradient.proofs.Lists.{all-listed}
use Rattle.stops.specs.Check.{place_in}
use Rattle.stops.specs.Check.{placed_of, places_in}
use Rattle.stops.proofs.places_in.Goals as goal

pub returns : goal.returns
unfolding places_in
returns c =
    all_from_yields_List place_in _ _ _ c.all.ensures.ran
    (YieldsList-from_slice (placed_of c.args.p) cc)
    (λ x b q k. search (rules, tests))
    ∙ all-listed place_in (placed_of c.args.p)
