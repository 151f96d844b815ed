-- `repeats::RepeatedStops::fill_spaced` meets its contract. Assumes nothing.
use mathlib.Core.Path.{◌≡◌, ◌∙◌}
use Prim.Native.Nat.{◌*◌, ◌≤◌}
use native.Mathlib.Nat.{mul-le-mul_right}
use native.Mathlib.Omega.{arith}
use lib.ListN.{length, take}
use lib.Seq.{length-take-le}
use Rattle.repeats.proofs.Periods.{entry-again, front_length, front-filled, lesser, more-periods}
use Rattle.repeats.proofs.repeated.RepeatedStops.fill_spaced.Goals as goal

pub fill_again-requires : goal.fill_again-requires
fill_again-requires c =
    let n = c.min-end.result in
    let l : length (take n c.args.t.now) ≡ n = length-take-le _ _ (lesser _ _ _ c.min-end.ensures).0 in
    let m : n * c.args.stride ≤ length c.args.t.now * c.args.stride = mul-le-mul_right c.args.stride (lesser _ _ _ c.min-end.ensures).0 in
    record { stride_nonzero = (c.requires.0, rw l (omega (arith, m, c.requires.1)), rw l (omega (arith, c.requires.2, (lesser _ _ _ c.min-end.ensures).0))); q_nonzero = c.entries_again-q.ensures }

pub returns : goal.returns
returns c =
    let a = c.args in
    let t = a.t.now in
    let p = c.fill_again in
    let n = c.min-end.result in
    let b = lesser _ _ _ c.min-end.ensures in
    let m = c.longer-m in
    let o : length p.new.t ≡ n = p.ensures.1 ∙ length-take-le n t b.0 in
    let f = c.copy_on.ensures in (
      f.0 _ (front-filled _ t p.new.t n m.result o b.0 b.1 p.ensures.0)
          (λ k. entry-again a.self.stops.positions.now a.self.stops.values.now c.args.self.periodic a.first a.stride m.result k (more-periods _ a.stride c.entries_again-q.result m.result c.entries_again-q.ensures.1 m.ensures.1)),
      f.1 ∙ front_length t p.new.t n o b.0,
    )
