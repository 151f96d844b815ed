-- `stopslayout::is_layout` meets its contract. Assumes nothing.
use mathlib.Core.Path.{◌≡◌}
use mathlib.Core.List.{append-nil}
use lib.ListN.{length}
use borrow.Author.Rules.{rules}
use Rattle.gradient.proofs.Lists.{unmapped}
use Rattle.stopslayout.proofs.Exact.{layout-length}
use Rattle.stopslayout.proofs.is_layout.Goals as goal

pub returns : goal.returns
returns c =
    let p = c.args.p in
    let n : length p.stops ≡ 16 = search (unmapped, rules) in
    rw (c.same.ensures, c.write.ensures, layout-length p n, append-nil)
