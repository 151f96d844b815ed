-- `table::LentStops::fill_between` meets its contract. Assumes nothing.
use Prim.Native.Nat.{◌+◌, ◌-◌, ◌*◌, ◌≤◌}
use native.Mathlib.Nat.{mul-le-mul_right}
use native.Mathlib.Omega.{arith}
use lib.ListN.{length, get_or}
use Rattle.table.proofs.Stores.{stored_same}
use Rattle.table.proofs.Runs.{edges, spans, walked-entry}
use Rattle.table.proofs.lent.LentStops.fill_between.Goals as goal
use Rattle.table.proofs.lent.LentStops.fill_between.Goals.{Start}

-- the run lies between the positions of the two stops
ends : (c : Start)
    → (get_or c.args.self.positions.now c.args.i 0 ≤ c.args.first + c.args.at * c.args.stride)
    × (c.args.first + (c.args.end - 1) * c.args.stride + 1 ≤ get_or c.args.self.positions.now (c.args.i + 1) 0)
ends c =
    let a = c.args in
    let p = c.requires in
    edges a.self.positions.now a.self.values.now a.self.lent a.first a.stride a.at a.end (length a.t.now) p.run a.i p.i_value.0 p.i_value.1

-- the first is no further than the last
order : (c : Start) → c.args.at * c.args.stride ≤ (c.args.end - 1) * c.args.stride
order c = mul-le-mul_right c.args.stride (omega (arith, c.requires.run.some))

pub overflow_sub-x : goal.overflow_sub-x
overflow_sub-x c = (ends (goal.at.overflow_sub-x c).Start).0

pub fill_gap-requires : goal.fill_gap-requires
fill_gap-requires c =
    let a = c.args in
    let p = c.requires in
    let r = p.run in
    let h = a.self.lent in
    let e = ends (goal.at.fill_gap-requires c).Start in
    let o = order (goal.at.fill_gap-requires c).Start in
    let sp = spans a.self.positions.now a.self.values.now a.self.lent a.first a.stride a.at a.end (length a.t.now) p.run a.i p.i_value.0 p.i_value.1 in record {
      at_le_end = (omega arith, r.within, r.few);
      i_in_bounds = (omega arith, h.small, record { some = omega arith; small = omega arith; stride = omega arith; within = omega arith }, sp);
    }

pub returns : goal.returns
returns c =
    let a = c.args in
    let p = c.requires in
    stored_same _ _ a.at a.end a.t.now _
    (walked-entry a.self.positions.now a.self.values.now a.self.lent a.first a.stride a.at a.end (length a.t.now) p.run a.i p.i_value.0 p.i_value.1)
    c.fill_gap.ensures
