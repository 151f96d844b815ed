-- `repeats::RepeatedStops::fill_piece` meets its contract. Assumes nothing.
use mathlib.Core.Path.{◌≡◌, ◌∙◌}
use Prim.Native.Nat.{ℕ, ◌+◌, ◌-◌, ◌*◌, ◌/◌, ◌≤◌, ◌<◌}
use native.Mathlib.Nat.{mul-le-mul_right}
use native.Mathlib.Omega.{arith}
use lib.ListN.{length, take, drop, length-drop}
use lib.Seq.{length-take-le}
use Rattle.repeats.specs.Repeats.{last_in}
use Rattle.repeats.proofs.Periods.{piece-entry, piece-some, piece-within, piece-fits, stored-part}
use Rattle.repeats.proofs.repeated.RepeatedStops.fill_piece.Goals as goal
use Rattle.repeats.proofs.repeated.RepeatedStops.fill_piece.Goals.{After-at_most, Start}

-- entry k's location
inside : (c : Start) → c.args.first + c.args.k * c.args.stride ≤ 67108864
inside c =
    let m : c.args.k * c.args.stride ≤ length c.args.t.now * c.args.stride = mul-le-mul_right c.args.stride (omega (arith, c.requires.3)) in
    omega (arith, c.requires.1)

small : (c : Start) → c.args.stride ≤ 67108864
small c =
    let m : 1 * c.args.stride ≤ length c.args.t.now * c.args.stride = mul-le-mul_right c.args.stride (omega (arith, c.requires.3)) in
    omega (arith, c.requires.1)

-- as many entries are lent as there are in the piece
lent : (c : After-at_most) → length (take (c.args.k + c.at_most.result - c.args.k) (drop c.args.k c.args.t.now)) ≡ c.at_most.result
lent c =
    let a = c.args in
    let e : a.k + c.at_most.result - a.k ≡ c.at_most.result = omega arith in
    rw e (length-take-le c.at_most.result (drop a.k a.t.now) (rw length-drop (omega (arith, c.at_most.ensures.2))))

pub overflow_mul-k : goal.overflow_mul-k
overflow_mul-k c = omega (arith, inside (goal.at.overflow_mul-k c).Start)

pub overflow_add-first : goal.overflow_add-first
overflow_add-first c = omega (arith, inside (goal.at.overflow_add-first c).Start)

pub overflow_cast-first : goal.overflow_cast-first
overflow_cast-first c = omega (arith, inside (goal.at.overflow_cast-first c).Start)

pub moved-at-requires : goal.moved-at-requires
moved-at-requires c = (c.args.self.periodic.lent.some, c.args.self.periodic.period)

pub overflow_add-last : goal.overflow_add-last
overflow_add-last c = omega (arith, c.args.self.periodic.range, small (goal.at.overflow_add-last c).Start)

pub at_most-requires : goal.at_most-requires
at_most-requires c =
    (rw c.entries_in-m.ensures (piece-some _ c.args.stride c.requires.0 (omega (arith, c.moved-at.ensures.2))), omega (arith, c.requires.3))

pub fill_spaced-requires : goal.fill_spaced-requires
fill_spaced-requires c =
    let a = c.args in
    let n = c.at_most.result in
    let l = lent (goal.at.fill_spaced-requires c).After-at_most in
    let d : ℕ = last_in a.self.stops.positions.now - c.moved-at.result in
    let m : n * a.stride ≤ d + (a.stride - 1) = piece-fits d a.stride n (rw (← c.entries_in-m.ensures) c.at_most.ensures.1) in
    let w = c.moved-at.ensures.2 in
    (c.requires.0, rw l (omega (arith, m, c.args.self.periodic.range, w, small (goal.at.fill_spaced-requires c).Start)), rw l (omega (arith, c.at_most.ensures.2, c.requires.2)))

pub returns : goal.returns
returns c =
    let a = c.args in
    let f = c.fill_spaced.ensures in
    let m = c.at_most in
    let u = c.moved-at in
    let o : length c.fill_spaced.new.t ≡ m.result = f.1 ∙ lent (goal.at.returns c).After-at_most in
    let d : ℕ = last_in a.self.stops.positions.now - u.result in
    let b : (k : ℕ) → k < m.result → k < (d + (a.stride - 1)) / a.stride = λ k h. rw (← c.entries_in-m.ensures) (omega (arith, m.ensures.1)) in (
      stored-part _ a.k m.result a.t.now c.fill_spaced.new.t _ (omega (arith, c.requires.3)) o
          (λ k h. f.0 k h ∙ piece-entry a.self.stops.positions.now a.self.stops.values.now c.args.self.periodic a.first a.stride a.k k _ u.ensures.0 u.ensures.1
          (omega (arith, piece-within d a.stride k c.requires.0 (b k (omega arith)), u.ensures.2))),
      omega (arith, m.ensures.0),
      omega (arith, m.ensures.2),
    )
