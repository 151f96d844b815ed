-- `stopslayout::take` meets its contract. Assumes nothing.
use Rattle.stopslayout.proofs.Replies.{other, refused, gave}
use Rattle.stopslayout.proofs.take.Goals as goal

pub returns-then-not-is_layout : goal.returns-then-not-is_layout
returns-then-not-is_layout c = other _ c.placed_at-p.ensures c.is_layout.ensures c.if-not-is_layout.true

pub returns-in_err-check_placed : goal.returns-in_err-check_placed
returns-in_err-check_placed c =
    refused _ c.placed_at-p.ensures c.is_layout.ensures c.if-not-is_layout.false _ _ c.from_residual.ensures c.in_err-check_placed.ensures

pub returns : goal.returns
returns c = gave _ c.placed_at-p.ensures c.is_layout.ensures c.if-not-is_layout.false c.in_ok-check_placed.ensures
