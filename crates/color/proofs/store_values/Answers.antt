-- `color::store_values` meets its contract. The invariant: the values of the first i stops stand from `at` on. Assumes nothing.
use mathlib.Core.Path.{◌≡◌, sym, ap, ◌∙◌}
use mathlib.Core.List.{List, []}
use Prim.Native.Nat.{ℕ, ◌+◌, ◌*◌}
use native.Mathlib.Omega.{arith}
use lib.ListN.{length, take, get_or}
use lib.Seq.{length-take-le}
use borrow.Author.Rules.{rules}
use Rattle.gradient.proofs.Lists.{unmapped}
use Rattle.stops.specs.Blank.{blank_placed}
use Rattle.stops.specs.declared.PlacedStop.{PlacedStop}
use Rattle.picture.specs.Picture.{patched}
use Rattle.picture.proofs.Patches.{patch-none, patch-step}
use Rattle.color.specs.Numbers.{four_of, values_of}
use Rattle.color.proofs.Numbers.{values-more, length-values}
use Rattle.color.proofs.Types.{placed-bytes}
use Rattle.color.proofs.store_values.Goals as goal

pub loop-i-init : goal.loop-i-init
unfolding values_of
loop-i-init c = patch-none c.args.words.now c.args.at

pub loop-i-preserved : goal.loop-i-preserved
loop-i-preserved c =
    let a = c.args in
    let l = c.loop-i in
    let n : length c.args.p.stops ≡ 16 = search (unmapped, rules) in
    let w : List ℕ = a.words.now in
    let ss : List PlacedStop = a.p.stops in
    let m : length (values_of (take l.i ss)) ≡ 4 * l.i = length-values (take l.i ss) ∙ ap (λ (k : ℕ). 4 * k) (length-take-le l.i ss (omega arith)) in
    patch-step w (values_of (take l.i ss)) (four_of (get_or ss l.i blank_placed).color []) l.words _ a.at (a.at + 4 * l.i) (omega arith) (omega arith) l.invariant c.store_color.ensures
    ∙ ap (patched w a.at) (sym (values-more ss l.i (omega arith)))

pub returns : goal.returns
returns c =
    let l = c.loop-i in
    let e : c.args.p.count ≡ l.i = omega arith in
    (rw e l.invariant, placed-bytes c.args.p _ c.well_formed.1.1.0)
