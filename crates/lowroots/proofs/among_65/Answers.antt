-- `lowroots::among_65` meets its contract. Assumes nothing.
use Rattle.std.proofs.Common.{arith}
use Rattle.lowroots.proofs.Found.{found}
use Rattle.lowroots.proofs.among_65.Goals as goal

pub returns : goal.returns
returns c = λ z is small lo hi.
    let s = c.begin.ensures.1 z 65 is small (omega arith) lo hi in
    let h = c.halved.ensures.1 z 33 (omega arith) s in
    let h₂ = c.halved-2.ensures.1 z 17 (omega arith) h in
    let h₃ = c.halved-s.ensures.1 z 9 (omega arith) h₂ in
    let h₄ = c.halved-3.ensures.1 z 5 (omega arith) h₃ in
    let h₅ = c.halved-4.ensures.1 z 3 (omega arith) h₄ in
    let h₆ = c.halved-5.ensures.1 z 2 (omega arith) h₅ in
    found z c.halved-6.result (c.halved-6.ensures.1 z 1 (omega arith) h₆)
