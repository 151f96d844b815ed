-- `lowroots::among_4` meets its contract. Assumes nothing.
use Rattle.std.proofs.Common.{ℕ, ◌+◌, ◌-◌, ◌%◌, refl, arith}
use Rattle.lowroots.proofs.Found.{four}
use Rattle.lowroots.proofs.among_4.Goals as goal

pub returns : goal.returns
returns c =
    let a = c.args in
    let rest : ℕ = (a.low + (4294967296 - c.low_half.result)) % 4294967296 in
    four a.low a.g (a.g % 134217728) _ c.low_half.result rest (rest % 2147483648)
    c.above.result c.above-2.result c.above-3.result refl (rw c.from-b.ensures at c.low_half.ensures) (omega arith)
    (omega arith) refl c.above.ensures c.above-2.ensures c.above-3.ensures refl
