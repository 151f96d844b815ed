-- `tokens::read_fraction` meets its contract. Assumes nothing.
use borrow.Author.Rules.{rules}
use Rattle.tokens.proofs.Magnitudes.{tenths, hundredths, all_three, no_fraction}
use Rattle.tokens.proofs.read_fraction.Goals as goal

pub returns-in-1 : goal.returns-in-1
returns-in-1 c = tenths c.digits.ensures c.value_of-value.ensures c.in-1.is

pub returns-in-2 : goal.returns-in-2
returns-in-2 c = hundredths c.digits.ensures c.value_of-value.ensures c.in-2.is

pub returns-in-3 : goal.returns-in-3
returns-in-3 c = all_three c.digits.ensures c.value_of-value.ensures c.in-3.is

pub returns-in_default : goal.returns-in_default
returns-in_default c = no_fraction c.digits.ensures c.value_of-value.ensures (search rules) (search rules) (search rules)
