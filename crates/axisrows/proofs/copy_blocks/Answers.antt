-- `axisrows::copy_blocks` meets its contract. The blocks and the rest are the copies.
use mathlib.Core.Path.{◌≡◌, ap}
use Prim.Native.Nat.{ℕ, ◌+◌, ◌*◌, ◌/◌, ◌%◌, ◌≤◌}
use native.Mathlib.Omega.{arith}
use lib.ListN.{length}
use lib.Seq.{length-take-le}
use Rattle.axisrows.proofs.Copies.{parts, blocks_step}
use Rattle.axisrows.proofs.copy_blocks.Goals as goal
use Rattle.axisrows.proofs.copy_blocks.Goals.{Start}

-- the blocks and the rest have room, and the rest is within a block
room : (s : Start)
    → (length s.args.block.now * (s.args.n / s.args.k) + s.args.m * (s.args.n % s.args.k) ≤ length s.args.buf.now)
    × (s.args.m * (s.args.n % s.args.k) ≤ length s.args.block.now)
room s =
    let a = s.args in
    let p = parts a.m a.n a.k s.requires.0 in
    let m : length a.block.now * (a.n / a.k) ≡ a.m * a.k * (a.n / a.k) = ap (λ (j : ℕ). j * (a.n / a.k)) s.requires.1 in
    (omega (arith, p.0, m, s.requires.2), omega (arith, p.1, s.requires.1))

pub copy_times-requires : goal.copy_times-requires
copy_times-requires c = omega (arith, room (goal.at.copy_times-requires c).Start)

pub overflow_mul-o : goal.overflow_mul-o
overflow_mul-o c = omega (arith, room (goal.at.overflow_mul-o c).Start)

pub copy_in-requires : goal.copy_in-requires
copy_in-requires c =
    let r = room (goal.at.copy_in-requires c).Start in
    rw (length-take-le _ _ r.1) (omega (arith, r.0))

pub returns : goal.returns
returns c =
    let t = c.copy_times in
    λ l e q. blocks_step l c.args.buf.now t.new.buf _ c.args.block.now c.args.k c.args.n c.requires.0 q (rw e c.requires.2) t.ensures (rw e c.copy_in.ensures)
