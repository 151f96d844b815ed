-- `root::root_near` meets its contract. Assumes nothing.
use Rattle.std.proofs.Common.{◌∙◌, rules}
use Rattle.root.proofs.Laws.{root-eq, root-div}
use Rattle.root.proofs.root_near.Goals as goal

pub nearby-q-requires : goal.nearby-q-requires
nearby-q-requires c = search rules

pub is_root-requires : goal.is_root-requires
is_root-requires c = search rules

pub returns-then-is_root : goal.returns-then-is_root
returns-then-is_root c =
    let a = c.args in
    root-eq a.n a.x _ c.requires.0 (c.is_root.ensures c.if-is_root.true)

pub nonzero_div-x : goal.nonzero_div-x
nonzero_div-x c = search rules

pub root_from-requires : goal.root_from-requires
root_from-requires c = search rules

pub returns : goal.returns
returns c =
    let a = c.args in
    c.root_from.ensures ∙ root-div a.n a.x c.requires.0
