-- `axisrows::copy_times` meets its contract: the bytes are put behind those that stand there.
use Rattle.std.proofs.Common.{refl, rules, ◌*◌, ◌≤◌, ◌+◌, length, arith}
use Rattle.std.proofs.Math.Nat.{mul-le-mul_left}
use Rattle.picture.specs.Picture.{joined, copies}
use Rattle.picture.proofs.Rows.{copies_length, copies-more}
use Rattle.picture.proofs.Patches.{patch-none, patch-step}
use Rattle.axisrows.proofs.copy_times.Goals as goal

pub loop-j-init : goal.loop-j-init
unfolding joined
loop-j-init c = record { copied = patch-none c.args.buf.now 0; len = refl }

pub loop-j-preserved : goal.loop-j-preserved
loop-j-preserved c =
    let a = c.args in
    let l = c.loop-j in
    let m : length a.bytes.now * (l.j + 1) ≤ length a.bytes.now * a.n = mul-le-mul_left (length a.bytes.now) (omega arith) in
    record {
      copied = rw copies-more (patch-step a.buf.now (copies l.j a.bytes.now) a.bytes.now l.buf _ 0 (length a.bytes.now * l.j) (rw copies_length (omega arith)) (omega arith) l.invariant.copied c.copy_in.ensures);
      len = search rules;
    }
