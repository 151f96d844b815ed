-- `placing::attach` meets its contract. The loop's invariant: the stops before i are at their positions, and the other places are blank.
-- Assumes nothing.
use mathlib.Core.Path.{◌≡◌}
use native.Mathlib.Omega.{arith}
use Prim.Native.Nat.{◌<◌}
use lib.ListN.{length, take, get_or}
use Rattle.std.proofs.lemmas.List.{get_or-take}
use lib.Seq.{length-take-le}
use borrow.Author.Rules.{rules}
use Rattle.gradient.specs.Blank.{blank_stop}
use Rattle.gradient.proofs.Lists.{unmapped}
use Rattle.placing.specs.Placed.{at_positions}
use Rattle.placing.proofs.Whole.{length-up-to, attach-step}
use Rattle.placing.proofs.attach.Goals as goal

pub loop-i-init : goal.loop-i-init
unfolding at_positions
loop-i-init c = rw c.blank_placed-out.ensures

pub loop-i-preserved : goal.loop-i-preserved
loop-i-preserved c =
    let l = c.loop-i in
    let n : length c.args.stops ≡ 16 = search (unmapped, rules) in
    let n' : length c.args.ps ≡ 16 = search rules in
    let m : length (take c.args.n c.args.stops) ≡ c.args.n = length-take-le c.args.n c.args.stops (omega (arith, n, c.requires.0)) in
    let k : l.i < c.args.n = omega (arith, c.loop-i-test.true, m) in
    let s : get_or (take c.args.n c.args.stops) l.i blank_stop ≡ get_or c.args.stops l.i blank_stop = get_or-take c.args.n c.args.stops l.i blank_stop k in
    rw (c.placed_stop.ensures, s) (attach-step c.args.stops c.args.ps l.out l.i (omega (arith, k, n, c.requires.0)) (omega (arith, k, n', c.requires.0)) (omega (arith, k, c.requires.0)) l.invariant)

pub returns : goal.returns
returns c =
    let l = c.loop-i in
    let n : length c.args.stops ≡ 16 = search (unmapped, rules) in
    let n' : length c.args.ps ≡ 16 = search rules in
    let m : length (take c.args.n c.args.stops) ≡ c.args.n = length-take-le c.args.n c.args.stops (omega (arith, n, c.requires.0)) in
    let e : l.i ≡ c.args.n = omega (arith, c.loop-i-test.false, c.loop-i.auto.i-end, m) in
    rw (l.invariant, e, length-up-to c.args.stops c.args.ps c.args.n (omega arith) (omega arith))
