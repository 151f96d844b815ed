-- `color::store_positions` meets its contract. The invariant: the first i positions stand from `at` on. Assumes nothing.
use mathlib.Core.Path.{◌≡◌, sym, ap, ◌∙◌}
use mathlib.Core.List.{List, [], ◌∷◌, ◌++◌}
use Prim.Native.Nat.{ℕ, ◌+◌, ◌≤◌}
use native.Mathlib.Omega.{arith}
use lib.IntN.{ℤ, nat_abs}
use lib.ListN.{length, take, get_or}
use lib.Seq.{length-take-le}
use borrow.Author.Rules.{rules}
use Rattle.numbers.specs.Biased.{bias, biased}
use Rattle.numbers.proofs.Signed.{small_same}
use Rattle.gradient.proofs.Lists.{unmapped}
use Rattle.stops.specs.Blank.{blank_placed}
use Rattle.stops.specs.declared.PlacedStop.{PlacedStop}
use Rattle.picture.specs.Picture.{patched}
use Rattle.picture.proofs.Patches.{set-step}
use Rattle.color.specs.Numbers.{positions_of}
use Rattle.color.proofs.Numbers.{position-near, positions-more, length-positions}
use Rattle.color.proofs.store_positions.Goals as goal
use Rattle.color.proofs.store_positions.Goals.{In-loop-i}

is-near : (c : In-loop-i) → nat_abs (get_or c.args.p.stops c.loop-i.i blank_placed).position ≤ bias
is-near c =
    let n : length c.args.p.stops ≡ 16 = search (unmapped, rules) in
    position-near c.args.p c.requires.0 c.loop-i.i (omega arith) (omega arith)

pub biased-requires : goal.biased-requires
biased-requires c = let near = is-near c.before in rw (small_same _ near) near

pub loop-i-preserved : goal.loop-i-preserved
loop-i-preserved c =
    let a = c.args in
    let l = c.loop-i in
    let n : length c.args.p.stops ≡ 16 = search (unmapped, rules) in
    let w : List ℕ = a.words.now in
    let ss : List PlacedStop = a.p.stops in
    let z : ℤ = (get_or ss l.i blank_placed).position in
    let v : ℕ = c.biased.result in
    let e : v ≡ biased z = c.biased.ensures ∙ ap biased (small_same z (is-near c.before.before)) in
    let m : length (positions_of (take l.i ss)) ≡ l.i = length-positions (take l.i ss) ∙ length-take-le l.i ss (omega arith) in
    let more : positions_of (take l.i ss) ++ (v ∷ []) ≡ positions_of (take (l.i + 1) ss) =
    ap (λ (x : ℕ). positions_of (take l.i ss) ++ (x ∷ [])) e ∙ sym (positions-more ss l.i (omega arith)) in
    set-step w (positions_of (take l.i ss)) l.words a.at (a.at + l.i) v (omega arith) (omega arith) l.invariant ∙ ap (patched w a.at) more
