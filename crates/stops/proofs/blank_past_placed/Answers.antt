-- `stops::blank_past_placed` meets its contract: the chain asks every stop of the list. Assumes nothing.
use mathlib.Core.Path.{◌∙◌}
use lib.ListN.{drop}
use Rattle.std.proofs.Common.{rules, tests}
use Rattle.std.proofs.lemmas.Iterator.{YieldsList-from_slice}
use Rattle.std.proofs.lemmas.Iterator.Adapters.{YieldsList-from_skip}
use Rattle.std.proofs.lemmas.Iterator.Search.{all_from_yields_List}
use Rattle.gradient.proofs.Lists.{all-listed}
use Rattle.stops.specs.Blank.{is_blank_placed}
use Rattle.stops.specs.Check.{blank_past_placed}
use Rattle.stops.proofs.blank_past_placed.Goals as goal

pub returns : goal.returns
unfolding blank_past_placed
returns c =
    let n = c.args.p.count in
    all_from_yields_List is_blank_placed _ _ _ c.all.ensures.ran
    (YieldsList-from_skip n (YieldsList-from_slice c.args.p.stops cc) cc)
    (λ x b q k. search (rules, tests))
    ∙ all-listed is_blank_placed (drop n c.args.p.stops)
