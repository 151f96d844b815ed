-- `text::trim_end` meets its contract. Assumes nothing.
use Rattle.text.proofs.trim_end.Goals as goal

pub returns : goal.returns
returns c = c.trim_fours.ensures _ c.trim_ascii_end.ensures.value
