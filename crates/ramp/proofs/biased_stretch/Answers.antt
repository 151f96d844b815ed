-- `ramp::biased_stretch` meets its contract. Assumes nothing.
use mathlib.Core.Path.{sym, ◌∙◌}
use Rattle.ramp.proofs.Heads.{color-once, color-repeated, biased-is}
use Rattle.ramp.proofs.biased_stretch.Goals as goal

pub returns-then-is_repeated : goal.returns-then-is_repeated
returns-then-is_repeated c =
    let h = rw (c.repeated_stops.ensures.0, c.repeated_stops.ensures.1) at c.stretch_at.ensures.0 in
    biased-is _ _ _ (color-repeated c.args.ramp.now (sym c.is_repeated.ensures ∙ c.if-is_repeated.true)) h c.stretch_at.ensures.1

pub returns : goal.returns
returns c =
    let h = rw (c.lent_stops.ensures.0, c.lent_stops.ensures.1) at c.stretch_at-2.ensures.0 in
    biased-is _ _ _ (color-once c.args.ramp.now (sym c.is_repeated.ensures ∙ c.if-is_repeated.false)) h c.stretch_at-2.ensures.1.from_low
