-- `walk::Channels<Walk>::alike` meets its contract. Assumes nothing.
use Rattle.std.proofs.Common.{rules, ◌≡◌, ◌∙◌, sym}
use Rattle.std.proofs.lemmas.Bool.{eqb-true, and_parts}
use Rattle.color.specs.Stop.{Channel}
use Rattle.walk.specs.Channels.{channel_of}
use Rattle.walk.proofs.Four.{every}
use Rattle.walk.proofs.Channels+Walk.alike.Goals as goal

pub returns : goal.returns
returns c = λ h.
    let four = and_parts _ _ (sym c.eq.ensures ∙ h) in
    let three = and_parts _ _ four.1 in
    let two = and_parts _ _ three.1 in
    let same : (d : Channel) → channel_of c.map.result d ≡ channel_of c.map-2.result d =
    every _ (eqb-true _ _ four.0) (eqb-true _ _ three.0) (eqb-true _ _ two.0) (eqb-true _ _ two.1) in
    λ d. let a = c.map.ensures d in let b = c.map-2.ensures d in let e = same d in search rules
