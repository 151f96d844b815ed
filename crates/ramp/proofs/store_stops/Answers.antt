-- `ramp::store_stops` meets its contract. Assumes nothing.
use mathlib.Core.Path.{◌≡◌, ap, ◌∙◌}
use mathlib.Core.List.{List}
use Prim.Native.Nat.{ℕ}
use native.Mathlib.Omega.{arith}
use lib.ListN.{length, set, length-set}
use lib.Seq.{length-take-le}
use Rattle.gradient.proofs.Lists.{unmapped}
use Rattle.stops.specs.Check.{placed_of}
use Rattle.picture.specs.Picture.{patched}
use Rattle.color.specs.Numbers.{values_of}
use Rattle.ramp.proofs.Heads.{held, count-is}
use borrow.Author.Rules.{rules}
use Rattle.ramp.proofs.store_stops.Goals as goal
use Rattle.ramp.proofs.store_stops.Goals.{Start}

many : (c : Start) → length (placed_of c.args.p) ≡ c.args.p.count
many c =
    let full : length c.args.p.stops ≡ 16 = search (unmapped, rules) in
    length-take-le c.args.p.count c.args.p.stops (omega (arith, c.requires.0.fit))

-- two words are written first
same : (c : Start) → length (set (set c.args.ramp.now 0 c.args.p.count) 2 0) ≡ length c.args.ramp.now
same c = length-set (set c.args.ramp.now 0 c.args.p.count) 2 0 ∙ length-set c.args.ramp.now 0 c.args.p.count

pub bounds-ramp-2 : goal.bounds-ramp-2
bounds-ramp-2 c = simp length-set (omega arith)

pub store_positions-requires : goal.store_positions-requires
store_positions-requires c = (c.requires.0, omega (arith, same (goal.at.store_positions-requires c).Start, c.requires, c.requires.0.fit))

pub store_values-requires : goal.store_values-requires
store_values-requires c = (c.requires.0.fit, omega (arith, same (goal.at.store_values-requires c).Start, c.requires, c.requires.0.fit))

pub shape_of-ramp : goal.shape_of-ramp
shape_of-ramp c = omega (arith, same (goal.at.shape_of-ramp c).Start)

pub returns : goal.returns
returns c =
    let v = c.store_values.ensures in
    let e = v.0 ∙ ap (λ (l : List ℕ). patched l 20 (values_of (placed_of c.args.p))) c.store_positions.ensures in
    rw e (held c.args.p c.args.ramp.now c.requires.0 c.requires.1 (many (goal.at.returns c).Start) v.1 c.requires.2, count-is c.args.p c.args.ramp.now c.requires.0 c.requires.1 (many (goal.at.returns c).Start) v.1 c.requires.2)
