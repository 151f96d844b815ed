-- `layout::write` meets its contract. Assumes nothing.
use mathlib.Core.Path.{◌≡◌, sym, ◌∙◌}
use lib.ListN.{length}
use borrow.Author.Rules.{rules}
use Rattle.picture.proofs.Patches.{painted}
use Rattle.gradient.proofs.Lists.{unmapped}
use Rattle.layout.specs.Words.{layout_of}
use Rattle.layout.proofs.Writes.{written}
use Rattle.layout.proofs.Exact.{layout-length}
use Rattle.layout.proofs.write.Goals as goal

pub returns : goal.returns
returns c =
    let n : length c.args.g.stops ≡ 16 = search (unmapped, rules) in
    let d = c.args.out.now in
    c.clear_from.ensures
    ∙ painted d (layout_of c.args.g) _ 320 (sym (layout-length c.args.g n)) c.requires
    (written c.args.g _ d _ _ n c.requires c.head_words.ensures c.put_head.ensures c.put_stops.ensures)
