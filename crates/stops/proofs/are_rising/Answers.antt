-- `stops::are_rising` meets its contract: no stop is below the one just before it. Assumes nothing.
use mathlib.Core.Path.{◌∙◌, ap}
use Rattle.std.proofs.Common.{rules, tests}
use Rattle.std.proofs.lemmas.List.Sorted.{answers_always}
use Rattle.stops.specs.Check.{rising}
use Rattle.stops.proofs.Rising.{not-below, rising-neighbours}
use Rattle.stops.proofs.are_rising.Goals as goal

pub returns : goal.returns
returns c =
    rising-neighbours _ _ (c.is_sorted_by.ensures.cases not-below (answers_always _ _ _ (λ f a r f' k. search (rules, tests)))) ∙ ap rising c.stops.ensures
