-- `ramp::set_table` meets its contract. Assumes nothing.
use native.Mathlib.Omega.{arith}
use lib.ListN.{length}
use borrow.Rule.Slice.PartMut.{mid_len}
use Rattle.ramp.proofs.Heads.{table-put}
use Rattle.ramp.proofs.set_table.Goals as goal

pub returns : goal.returns
returns c =
    let h = c.set_head in
    table-put c.args.stops.now h.new.ramp c.fill_spaced.new.t c.args.base c.requires.0 h.ensures.0 (omega (arith, h.ensures.1, c.requires.1)) c.fill_spaced.ensures.0
    (omega (arith, c.requires.2, h.ensures.1, c.fill_spaced.ensures.1, mid_len 84 (length h.new.ramp) h.new.ramp (omega arith)))
