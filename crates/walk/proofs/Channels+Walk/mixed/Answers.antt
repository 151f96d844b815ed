-- `walk::Channels<Walk>::mixed` meets its contract. Assumes nothing.
use Rattle.std.proofs.Common.{◌+◌, ◌-◌}
use Rattle.numbers.specs.Fraction.{nearest}
use Rattle.color.specs.Stop.{red, green, blue, alpha}
use Rattle.color.specs.Lent.{values_at, mix}
use Rattle.walk.proofs.Four.{rgba-is}
use Rattle.walk.proofs.Channels+Walk.mixed.Goals as goal

pub returns : goal.returns
returns c = λ vs i g s x left h.
    rgba-is (λ d. nearest (mix (values_at vs i d) (values_at vs (i + 1) d) x (g - x)))
    (c.byte.ensures _ _ g s x left (h red)) (c.byte-2.ensures _ _ g s x left (h green))
    (c.byte-3.ensures _ _ g s x left (h blue)) (c.byte-4.ensures _ _ g s x left (h alpha))
