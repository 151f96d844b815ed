-- `circleroots::Row::far_part` meets its contract. Assumes nothing.
use Rattle.circleroots.proofs.Rows.{far-found}
use Rattle.circleroots.proofs.Row.far_part.Goals as goal

pub returns : goal.returns
returns c =
    let a = c.args in
    far-found a.self.c a.self.w a.self.j a.low.now _ _ c.requires.0 a.a a.b c.requires.2 _ _ c.low_half-r.ensures c.square.ensures.0
    a.before.now a.last.now _ c.part.ensures.each c.part.ensures.kept c.requires.3
