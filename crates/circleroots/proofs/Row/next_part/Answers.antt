-- `circleroots::Row::next_part` meets its contract. Assumes nothing.
use Rattle.circleroots.proofs.Rows.{next-found}
use Rattle.circleroots.proofs.Row.next_part.Goals as goal

pub returns : goal.returns
returns c =
    let a = c.args in
    let d = c.descent-down in
    next-found a.self.c a.self.w a.self.j a.low.now _ _ c.requires.0 a.a a.b c.requires.2 _ _ c.low_half-r.ensures c.square.ensures.0
    a.before.now a.last.now _ d.result d.ensures.0 d.ensures.1 (λ i p q. c.part.ensures.each i p q) c.part.ensures.kept c.requires.3
