-- `stopslayout::write` meets its contract. The invariant: the first places stand from byte 4 on. Assumes nothing.
use mathlib.Core.Path.{◌≡◌, ◌∙◌}
use native.Mathlib.Omega.{arith}
use lib.ListN.{length, take}
use lib.Seq.{take_all}
use borrow.Author.Rules.{rules}
use Rattle.picture.proofs.Patches.{patch-none}
use Rattle.gradient.proofs.Lists.{unmapped}
use Rattle.stopslayout.proofs.Writing.{place-step, all-written}
use Rattle.stopslayout.proofs.write.Goals as goal
use Rattle.stopslayout.proofs.write.Goals.{Start}

sixteen : (c : Start) → length c.args.p.stops ≡ 16
sixteen c = search (unmapped, rules)

pub loop-place-init : goal.loop-place-init
loop-place-init c = patch-none _ 4

pub loop-place-preserved : goal.loop-place-preserved
loop-place-preserved c =
    let l = c.loop-place in
    let n = sixteen (goal.at.loop-place-preserved c).Start in
    place-step c.args.p.stops c.put.new.buf l.out _ l.place (omega arith) (omega arith) l.invariant c.put_stop.ensures

pub returns : goal.returns
returns c =
    let l = c.loop-place in
    let n = sixteen (goal.at.returns c).Start in
    let e : l.place ≡ 16 = omega arith in
    let all : take 16 c.args.p.stops ≡ c.args.p.stops = take_all 16 c.args.p.stops (omega arith) in
    c.clear_from.ensures ∙ all-written c.args.p c.args.out.now c.put.new.buf l.out n (omega arith) c.put.ensures (rw (e, all) at l.invariant)
