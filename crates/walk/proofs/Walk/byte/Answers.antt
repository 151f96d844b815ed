-- `walk::Walk::byte` meets its contract. Assumes nothing.
use Rattle.std.proofs.Common.{◌≡◌, ◌+◌, ◌/◌, ◌%◌, ◌∙◌, arith}
use Rattle.color.specs.Lent.{scale}
use Rattle.walk.proofs.Walks.{walk-byte, walk-small}
use Rattle.walk.proofs.Walk.byte.Goals as goal

pub returns : goal.returns
returns c = λ p q g s x left h.
    let w = c.args.self in
    let l = walk-small p q g s x (left + 1) w h in
    let e : w.f / scale % 256 ≡ w.f / scale = omega arith in
    e ∙ walk-byte p q g s x left w h
