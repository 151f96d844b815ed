-- `layout::put_stop` meets its contract. Assumes nothing.
use Rattle.layout.proofs.Writes.{stop-written}
use Rattle.layout.proofs.put_stop.Goals as goal

pub returns : goal.returns
returns c =
    stop-written c.args.s c.args.out.now _ _ _ _ c.args.at _ _ _ c.requires
    c.color_word.ensures
    c.position_unit.ensures
    c.position_word.ensures
    c.put_word.ensures
    c.put_word-2.ensures
    c.put_word-3.ensures
    c.put_word-4.ensures
