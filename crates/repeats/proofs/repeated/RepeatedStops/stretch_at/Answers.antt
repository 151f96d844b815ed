-- `repeats::RepeatedStops::stretch_at` meets its contract. Assumes nothing.
use Prim.Native.Nat.{◌<◌}
use native.Mathlib.Omega.{arith}
use Rattle.repeats.proofs.Periods.{along-color}
use Rattle.repeats.proofs.repeated.RepeatedStops.stretch_at.Goals as goal

pub moved-requires : goal.moved-requires
moved-requires c =
    let n = c.stretch_at-t.ensures.1 in
    (λ h. omega (arith, n.from_low h, c.saturating_sub.ensures), omega (arith, n.not-far), omega (arith, c.requires.1))

pub returns : goal.returns
returns c =
    let u = c.moved-m in
    let t = c.stretch_at-t in
    let m = c.moved.ensures in
    let n = t.ensures.1 in (
      m.3 _ _ t.ensures.0 (omega (arith, m.1, n.not-far, c.requires.1)) (λ k l.
          let some : 0 < t.result.count = omega arith in
          let i = n.inside some u.ensures.1 u.ensures.2 in
          along-color c.args.self.stops.positions.now c.args.self.stops.values.now c.args.self.periodic c.args.at u.result _ _ u.ensures.0 (omega (arith, i.0)) (omega (arith, i.1)) (omega (arith, m.2 some))),
      λ h.
          let some : 0 < t.result.count = omega (arith, m.0) in
          omega (arith, m.2 some, n.from_low some, c.saturating_sub.ensures, c.requires.0),
    )
