-- `repeats::RepeatedStops::fill_again` meets its contract. Assumes nothing.
use mathlib.Core.Path.{◌≡◌, sym, ◌∙◌}
use Prim.Native.Nat.{◌*◌, ◌≤◌}
use native.Mathlib.Nat.{mul-le-mul_right}
use native.Mathlib.Omega.{arith}
use lib.ListN.{length, take}
use lib.Seq.{length-take-le}
use Rattle.repeats.proofs.Periods.{entry-again, front_length, front-filled, lesser}
use Rattle.repeats.proofs.repeated.RepeatedStops.fill_again.Goals as goal

pub slice_bounds-fill_pieces-end-2 : goal.slice_bounds-fill_pieces-end-2
slice_bounds-fill_pieces-end-2 c = sym (length-take-le _ _ (lesser _ _ _ c.min-end.ensures).0)

pub fill_pieces-requires : goal.fill_pieces-requires
fill_pieces-requires c =
    let n = c.min-end.result in
    let l : length (take n c.args.t.now) ≡ n = length-take-le _ _ (lesser _ _ _ c.min-end.ensures).0 in
    let m : n * c.args.stride ≤ length c.args.t.now * c.args.stride = mul-le-mul_right c.args.stride (lesser _ _ _ c.min-end.ensures).0 in
    (c.requires.stride_nonzero.0, rw l (omega (arith, m, c.requires.stride_nonzero.1)), rw l (omega (arith, c.requires.stride_nonzero.2, (lesser _ _ _ c.min-end.ensures).0)))

pub returns : goal.returns
returns c =
    let a = c.args in
    let t = a.t.now in
    let p = c.fill_pieces in
    let n = c.min-end.result in
    let b = lesser _ _ _ c.min-end.ensures in
    let o : length p.new.t ≡ n = p.ensures.1 ∙ length-take-le n t b.0 in
    let f = c.copy_on.ensures in (
      f.0 _ (front-filled _ t p.new.t n a.q o b.0 b.1 p.ensures.0)
          (λ k. entry-again a.self.stops.positions.now a.self.stops.values.now c.args.self.periodic a.first a.stride a.q k c.requires.q_nonzero.1),
      f.1 ∙ front_length t p.new.t n o b.0,
    )
