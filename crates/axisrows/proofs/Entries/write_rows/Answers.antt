-- `axisrows::Entries::write_rows` meets its contract: a row is put behind those that stand there.
use Rattle.std.proofs.Common.{◌≡◌, refl, ap, rules, List, ℕ, ◌+◌, ◌*◌, ◌≤◌, length, arith}
use Rattle.std.proofs.Math.Nat.{mul-le-mul_left}
use Rattle.picture.specs.Picture.{row, joined, copies}
use Rattle.picture.proofs.Rows.{row-length, copies_length, copies-more}
use Rattle.picture.proofs.Patches.{patch-none, patch-step}
use Rattle.axisrows.specs.Axis.{by_column}
use Rattle.axisrows.proofs.Entries.write_rows.Goals as goal

pub loop-j-init : goal.loop-j-init
unfolding joined
loop-j-init c = record { rows = patch-none c.args.bytes.now 0; len = refl }

pub loop-j-preserved : goal.loop-j-preserved
loop-j-preserved c =
    let a = c.args in
    let l = c.loop-j in
    let px : (ℕ → ℕ → List ℕ) = by_column a.self.table.now a.self.back a.self.n in
    let r : 4 * a.self.n * (l.j + 1) ≤ 4 * a.self.n * a.k = mul-le-mul_left (4 * a.self.n) (omega arith) in
    let n : length (row px a.self.n 0) ≡ 4 * a.self.n = row-length px (λ i j. refl) a.self.n 0 in
    let m : length (row px a.self.n 0) * l.j ≡ 4 * a.self.n * l.j = ap (λ (x : ℕ). x * l.j) n in
    record {
      rows = rw copies-more (patch-step a.bytes.now (copies l.j (row px a.self.n 0)) (row px a.self.n 0) l.bytes _ 0 (4 * a.self.n * l.j) (rw copies_length (omega arith)) (omega arith) l.invariant.rows c.write_row.ensures);
      len = search rules;
    }
