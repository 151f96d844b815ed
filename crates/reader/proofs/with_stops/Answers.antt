-- `reader::with_stops` meets its contract. Assumes nothing.
use Rattle.reader.proofs.Items.{stops-got, stops-none, no-items}
use Rattle.reader.proofs.with_stops.Goals as goal

pub returns-in_err-stops : goal.returns-in_err-stops
returns-in_err-stops c = rw (c.from_residual.ensures, c.in_err-stops.was) (no-items c.args.shape c.args.repeating)

pub returns-in_err-list : goal.returns-in_err-list
returns-in_err-list c = rw (c.from_residual-in_err-list.ensures, c.in_ok-stops.was) (stops-none c.args.shape c.args.repeating _ c.in_err-list.ensures)

pub returns : goal.returns
returns c = rw c.in_ok-stops.was (stops-got c.args.shape c.args.repeating _ c.in_ok-list.ensures)
