-- `checksums::adler32` meets its contract, by a turn of its loop and its end.
use Rattle.std.proofs.Common.{refl, sym, ◌∙◌, arith}
use Rattle.checksums.specs.Adler.{adler}
use Rattle.checksums.proofs.Laws.{sums-end, sums-turn}
use Rattle.checksums.proofs.adler32.Goals as goal

pub loop-b-init : goal.loop-b-init
unfolding adler
loop-b-init c = record { sums = refl; one = omega arith; two = omega arith }

pub loop-b-preserved : goal.loop-b-preserved
loop-b-preserved c =
    let l = c.loop-b in
    record {
      sums = sums-turn l.one l.two c.args.s.now l.b-index c.loop-b-test.true ∙ l.invariant.sums;
      one = omega arith;
      two = omega arith;
    }

pub returns : goal.returns
returns c =
    let l = c.loop-b in
    sym (sums-end l.one l.two c.args.s.now l.b-index c.loop-b-test.false) ∙ l.invariant.sums
