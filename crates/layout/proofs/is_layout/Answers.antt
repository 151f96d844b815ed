-- `layout::is_layout` meets its contract. Assumes nothing.
use mathlib.Core.Path.{◌≡◌}
use mathlib.Core.List.{append-nil}
use lib.ListN.{length}
use borrow.Author.Rules.{rules}
use Rattle.gradient.proofs.Lists.{unmapped}
use Rattle.layout.proofs.Exact.{layout-length}
use Rattle.layout.proofs.is_layout.Goals as goal

pub returns : goal.returns
returns c =
    let g = c.args.g in
    let n : length g.stops ≡ 16 = search (unmapped, rules) in
    rw (c.same.ensures, c.write.ensures, layout-length g n, append-nil)
