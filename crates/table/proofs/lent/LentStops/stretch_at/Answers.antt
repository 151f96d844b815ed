-- `table::LentStops::stretch_at` meets its contract. Assumes nothing.
use mathlib.Core.Path.{◌≡◌, ◌∙◌}
use Prim.Native.Nat.{◌+◌, ◌-◌, ◌≤◌}
use native.Mathlib.Omega.{arith}
use lib.ListN.{get_or}
use Rattle.table.proofs.Stretches.{flat_after}
use borrow.Author.Rules.{rules}
use Rattle.table.proofs.lent.LentStops.stretch_at.Goals as goal
use Rattle.table.proofs.lent.LentStops.stretch_at.Goals.{After-max}

-- the first location past the last stop is from it and `low` on, and at or below `at`
past : (c : After-max)
    → (get_or c.args.self.positions.now (c.place_above-place.result - 1) 0 ≤ c.max.result) × (c.args.low ≤ c.max.result) × (c.max.result ≤ c.args.at)
past c =
    let l = c.place_above-place.ensures.below (c.place_above-place.result - 1) (omega (arith, c.if-place-eq0.false)) in
    let m = c.requires.0 in
    (search rules, search rules, search rules)

pub flat_stretch-requires-then-place-self : goal.flat_stretch-requires-then-place-self
flat_stretch-requires-then-place-self c =
    let i = c.place_above-place.result - 1 in
    let e : i + 1 ≡ c.place_above-place.result = omega (arith, c.if-place-eq0.false) in
    let z = past (goal.at.flat_stretch-requires-then-place-self c).After-max in
    rw e at (flat_after c.args.self.positions.now c.args.self.lent.rising i c.args.at c.max.result c.requires.1 (e ∙ c.if-place-self.true) z.0 z.2)
