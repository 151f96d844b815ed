-- `repeats::RepeatedStops::fill_pieces` meets its contract. The invariant: the colors stand up to k. Assumes nothing.
use mathlib.Core.Path.{◌≡◌, refl, ap}
use Prim.Native.Nat.{ℕ, ◌*◌}
use native.Mathlib.Omega.{arith}
use lib.ListN.{length}
use Rattle.table.proofs.Stores.{stored-none, stored-join}
use Rattle.repeats.proofs.repeated.RepeatedStops.fill_pieces.Goals as goal

pub loop-k-init : goal.loop-k-init
loop-k-init c = (stored-none _ 0 c.args.t.now, omega arith, refl)

pub fill_piece-k-requires : goal.fill_piece-k-requires
fill_piece-k-requires c =
    let l = c.loop-k in
    let e : length l.t ≡ length c.args.t.now = l.invariant.2 in
    let m : length l.t * c.args.stride ≡ length c.args.t.now * c.args.stride = ap (λ (z : ℕ). z * c.args.stride) e in
    (c.requires.0, omega (arith, m, c.requires.1), omega (arith, e, c.requires.2), omega arith)

pub loop-k-preserved : goal.loop-k-preserved
loop-k-preserved c =
    let l = c.loop-k in
    let f = c.fill_piece-k.ensures in
    (stored-join _ 0 l.k _ _ l.t _ (omega arith) l.invariant.0 f.0, omega (arith, f.2, l.invariant.2), omega arith)

pub returns : goal.returns
returns c =
    let l = c.loop-k in
    (λ k h. l.invariant.0.new k (omega arith) (omega arith), l.invariant.2)
