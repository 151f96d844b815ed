-- `ramp::repeat` meets its contract. Assumes nothing.
use mathlib.Core.Path.{◌≡◌, sym, ap, ◌∙◌}
use Prim.Native.Nat.{ℕ, ◌+◌, ◌-◌}
use native.Mathlib.Omega.{arith}
use lib.ListN.{get_or, length-set}
use Rattle.repeats.specs.Repeats.{first_in, last_in}
use Rattle.ramp.specs.Ramp.{positions_in}
use Rattle.ramp.proofs.Heads.{positions-length, first-at, last-at, made-repeated, made_one}
use borrow.Author.Rules.{rules}
use Rattle.ramp.proofs.repeat.Goals as goal
use Rattle.ramp.proofs.repeat.Goals.{After-count-n, Start}

first-is : (c : Start) → first_in (positions_in c.args.ramp.now) ≡ get_or c.args.ramp.now 4 0
first-is c = first-at c.args.ramp.now c.requires.1 (omega (arith, c.requires.0))

last-is : (c : After-count-n) → last_in (positions_in c.args.ramp.now) ≡ get_or c.args.ramp.now (4 + (c.count-n.result - 1)) 0
last-is c =
    last-at c.args.ramp.now c.requires.1 (omega (arith, c.requires.0)) ∙ ap (λ (n : ℕ). get_or c.args.ramp.now (4 + (n - 1)) 0) (sym c.count-n.ensures.0)

pub returns-then-ramp-n : goal.returns-then-ramp-n
returns-then-ramp-n c = λ l h. made-repeated l c.args.ramp.now h (omega (arith, first-is (goal.at.returns-then-ramp-n c).Start, last-is (goal.at.returns-then-ramp-n c).After-count-n, c.if-ramp-n.true))

pub average_color-c-requires : goal.average_color-c-requires
average_color-c-requires c =
    let p = c.requires.1 in
    let n = c.count-n.ensures in
    rw c.values.ensures (omega (arith, n.0, c.requires.0), n.1, omega (arith, n.0, p.lent.four, positions-length c.args.ramp.now p), p.lent.small)

pub store_bytes-requires : goal.store_bytes-requires
store_bytes-requires c = rw length-set (omega (arith, c.requires.1.head))

pub shape_of-ramp : goal.shape_of-ramp
shape_of-ramp c = omega (arith, length-set c.args.ramp.now 0 1)

pub returns : goal.returns
returns c = λ l h.
    let q = c.args.ramp.now in
    let a = c.average_color-c in
    let e = a.ensures (positions_in q) (positions-length q c.requires.1 ∙ sym c.count-n.ensures.0) in
    rw c.before.before.store_bytes.ensures (made_one l q h a.result (omega (arith, positions-length q c.requires.1, c.requires.0)) (omega (arith, first-is (goal.at.returns c).Start, last-is (goal.at.returns c).After-count-n, c.if-ramp-n.false)) (search rules) (search rules) (search rules) (search rules) (rw c.values.ensures at e))
