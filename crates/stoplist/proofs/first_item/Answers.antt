-- `stoplist::first_item` meets its contract. Assumes nothing.
use Rattle.std.proofs.Common.{rules}
use Rattle.stoplist.specs.View.{not_comma}
use Rattle.stoplist.proofs.Laws.{comma_test, first-more, first-last}
use Rattle.stoplist.proofs.first_item.Goals as goal

pub returns-in-empty : goal.returns-in-empty
returns-in-empty c = first-last (c.run.ensures not_comma (search (rules, comma_test))) c.in-empty.len_below

pub returns-in-len1-up : goal.returns-in-len1-up
returns-in-len1-up c = first-more (c.run.ensures not_comma (search (rules, comma_test))) c.in-len1-up.len_at_least
