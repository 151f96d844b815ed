-- `ramp::set_head` meets its contract. Assumes nothing.
use Rattle.std.proofs.Common.{◌≡◌, ℕ, List, ◌++◌, length, take, drop, set, ap, ◌∙◌, arith}
use Rattle.std.proofs.Math.Seq.{take-append_seam}
use Rattle.std.proofs.lemmas.List.{length-take-le}
use lib.ListN.{length-set}
use lib.Seq.{take-set-lt}
use Rattle.repeats.proofs.Periods.{front_length}
use Rattle.ramp.proofs.set_head.Goals as goal

pub returns : goal.returns
returns c =
    let t = c.args.ramp.now in
    let q = c.args.stops.now in
    let x = c.copy_from_slice.new.self in
    let n : length x ≡ 84 = ap length c.copy_from_slice.ensures.after ∙ length-take-le 84 q c.requires.0 in
    let e : take 84 (x ++ drop 84 t) ≡ x = rw n at (take-append_seam x (drop 84 t)) in
    let o : length (x ++ drop 84 t) ≡ length t = front_length t x 84 n c.requires.1 in (
      take-set-lt 84 (x ++ drop 84 t) 1 c.args.base (omega arith) ∙ ap (λ (l : List ℕ). set l 1 c.args.base) (e ∙ c.copy_from_slice.ensures.after),
      simp length-set o,
    )
