-- `text::trim_fours` meets its contract. Assumes nothing.
use mathlib.Core.Path.{sym, ◌∙◌}
use Rattle.text.proofs.Ends.{trims-four}
use Rattle.text.proofs.trim_fours.Goals as goal

pub loop-s-preserved : goal.loop-s-preserved
loop-s-preserved c r h =
    let a = sym c.is_space.ensures ∙ c.if-is_space.true in
    let b = sym c.is_space-in-loop-s.ensures ∙ c.if-is_space-2.true in
    let d = sym c.is_space-in-loop-s-2.ensures ∙ c.if-is_space-3.true in
    let e = sym c.is_space-in-loop-s-3.ensures ∙ c.if-is_space-4.true in
    c.loop-s.invariant r (trims-four _ c.in-len4-up.len_at_least a b d e r h)
