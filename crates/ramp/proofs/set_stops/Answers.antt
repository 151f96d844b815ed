-- `ramp::set_stops` meets its contract. Assumes nothing.
use Rattle.stops.specs.Check.{placed_of}
use Rattle.ramp.proofs.Heads.{made-once}
use Rattle.ramp.proofs.set_stops.Goals as goal

pub returns-then-repeating : goal.returns-then-repeating
returns-then-repeating c =
    let p = c.args.p in
    let h = c.store_stops.ensures.0 in
    (rw c.if-repeating.true (c.repeat.ensures (placed_of p) h), h.bytes)

pub returns-else-repeating : goal.returns-else-repeating
returns-else-repeating c =
    let p = c.args.p in
    let h = c.store_stops.ensures.0 in
    (rw c.if-repeating.false (made-once (placed_of p) _ h), h.bytes)
