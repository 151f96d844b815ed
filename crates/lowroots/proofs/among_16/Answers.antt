-- `lowroots::among_16` meets its contract. Assumes nothing.
use Rattle.std.proofs.Common.{arith}
use Rattle.lowroots.proofs.Found.{found}
use Rattle.lowroots.proofs.among_16.Goals as goal

pub returns : goal.returns
returns c = λ z is small lo hi.
    let s = c.begin.ensures.1 z 16 is small (omega arith) lo hi in
    let h = c.halved.ensures.1 z 8 (omega arith) s in
    let h₂ = c.halved-s.ensures.1 z 4 (omega arith) h in
    let h₃ = c.halved-2.ensures.1 z 2 (omega arith) h₂ in
    found z c.halved-3.result (c.halved-3.ensures.1 z 1 (omega arith) h₃)
