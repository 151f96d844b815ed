-- `table::LentStops::flat_stretch` meets its contract. Assumes nothing.
use mathlib.Core.Path.{refl}
use Prim.Native.Nat.{◌<◌}
use native.Mathlib.Omega.{arith}
use Rattle.table.proofs.Stretches.{some, stretched-flat}
use Rattle.table.proofs.lent.LentStops.flat_stretch.Goals as goal
use Rattle.table.proofs.lent.LentStops.flat_stretch.Goals.{After-run_end-end}

after : (c : After-run_end-end) → c.args.first < c.run_end-end.result
after c =
    let f = c.requires in
    some c.args.self.positions.now c.args.self.lent.rising c.args.place c.args.first c.run_end-end.result f.near f.splits c.run_end-end.ensures

pub overflow_sub-result : goal.overflow_sub-result
overflow_sub-result c = omega (arith, after c)

pub returns : goal.returns
returns c =
    let a = c.args in
    (stretched-flat a.self.positions.now a.self.values.now c.args.self.lent a.i a.first a.place c.run_end-end.result c.requires c.run_end-end.ensures _ c.stay.ensures, refl)
