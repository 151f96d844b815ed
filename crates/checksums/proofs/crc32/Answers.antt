-- `checksums::crc32` meets its contract, by a turn of its loop and its end.
use Rattle.std.proofs.Common.{sym, ap, ◌∙◌}
use Rattle.checksums.specs.Crc.{swapped, crc}
use Rattle.checksums.proofs.Laws.{register-end, register-turn}
use Rattle.checksums.proofs.crc32.Goals as goal

pub loop-b-preserved : goal.loop-b-preserved
loop-b-preserved c =
    let l = c.loop-b in
    rw c.byte_step-r.ensures (register-turn l.r c.args.s.now l.b-index c.loop-b-test.true ∙ l.invariant)

pub returns : goal.returns
unfolding crc
returns c =
    let l = c.loop-b in
    ap swapped (sym (register-end l.r c.args.s.now l.b-index c.loop-b-test.false) ∙ l.invariant)
