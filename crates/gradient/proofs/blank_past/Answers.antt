-- `gradient::blank_past` meets its contract: the chain asks every stop of the list. Assumes nothing.
use mathlib.Core.Path.{◌∙◌}
use Rattle.std.proofs.Common.{rules, tests}
use Rattle.std.proofs.lemmas.Iterator.{YieldsList-from_slice}
use Rattle.std.proofs.lemmas.Iterator.Adapters.{YieldsList-from_skip}
use Rattle.std.proofs.lemmas.Iterator.Search.{all_from_yields_List}
use Rattle.gradient.specs.Blank.{is_blank}
use Rattle.gradient.specs.Check.{unused_of, blank_past}
use Rattle.gradient.proofs.Lists.{all-listed}
use Rattle.gradient.proofs.blank_past.Goals as goal

pub returns : goal.returns
unfolding blank_past
returns c =
    let n = c.args.g.count in
    all_from_yields_List is_blank _ _ _ c.all.ensures.ran
    (YieldsList-from_skip n (YieldsList-from_slice c.args.g.stops cc) cc)
    (λ x b q k. search (rules, tests))
    ∙ all-listed is_blank (unused_of c.args.g)
