-- `axisrows::Entries::draw_rows` meets its contract: the front of the block is the row, k times.
use Rattle.std.proofs.Common.{◌≡◌, refl, ◌∙◌, ap, List, ℕ, ◌*◌, length, length-take-le, rules}
use Rattle.picture.specs.Picture.{row, copies}
use Rattle.picture.proofs.Rows.{row-length, copies_length}
use Rattle.axisrows.specs.Axis.{by_column}
use Rattle.axisrows.proofs.Copies.{front-is}
use Rattle.axisrows.proofs.Entries.draw_rows.Goals as goal

pub returns : goal.returns
returns g c =
    let a = c.args in
    let px : (ℕ → ℕ → List ℕ) = by_column a.self.table.now a.self.back a.self.n in
    let e = row-length px (λ i j. refl) a.self.n 0 in
    let s : List ℕ = copies a.k (row px a.self.n 0) in
    let n : length s ≡ 4 * a.self.n * a.k = copies_length (row px a.self.n 0) a.k ∙ ap (λ (x : ℕ). x * a.k) e in
    c.copy_blocks.ensures _ e (front-is c.write_rows.new.bytes _ s _ (4 * a.self.n * a.k) (length-take-le _ _ (search rules)) n c.write_rows.ensures)
