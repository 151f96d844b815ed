-- Places whose whole parts are certain: the entry of each in the table, and that it is the location.
-- Assumes nothing.
use Rattle.std.proofs.Common.{◌≡◌, ℕ, ◌+◌, ◌-◌, ◌*◌, ◌/◌, ◌%◌, ◌<◌, ◌≤◌, ◌∙◌, add-zero, arith}
use Rattle.line.specs.Location.{location_by}
use Rattle.line.specs.Represented.{rule_in}
use Rattle.line.specs.declared.SignedVector.{SignedVector}
use Rattle.line.specs.declared.Line.TheVariants as L
use Rattle.fixed.specs.Steps.{Reaches, place_at, Advances, AlongRow}
use Rattle.fixed.specs.declared.RowLine.{RowLine}
use Rattle.fixed.proofs.Places.{place-whole}
use Rattle.rowparts.specs.Certain.{AllCertain}

module _ (r : RowLine) (i n base size s : ℕ) (some : 0 < n) (a : AllCertain r i n base size) (steps : Advances r s) where
  first : Reaches r i
  first = rw add-zero at (a.fits 0 some)

  pub from-base : base * 33554432 ≤ place_at r i
  from-base = omega (arith, rw add-zero at (a.certain 0 some).inside.low)

  module _ (k : ℕ) (h : k < n) where
    entry_place : (place_at r i - base * 33554432 + s * k) % 18446744073709551616 ≡ place_at r (i + k) - base * 33554432
    entry_place = steps i k (base * 33554432) first (a.fits k h) from-base (omega (arith, (a.certain k h).inside.low))

    pub entry-within : (place_at r i - base * 33554432 + s * k) % 18446744073709551616 / 33554432 < size
    entry-within = rw entry_place (omega (arith, (a.certain k h).inside.low, (a.certain k h).inside.high))

    pub entry-location : (v : SignedVector) (w g j : ℕ) → AlongRow r v w g j → i + n ≤ w
        → base + (place_at r i - base * 33554432 + s * k) % 18446744073709551616 / 33554432 ≡ location_by (rule_in (L.Straight v) w g) (i + k) j
    entry-location v w g j f l =
        let e : base + (place_at r (i + k) - base * 33554432) / 33554432 ≡ place_at r (i + k) / 33554432 = omega (arith, (a.certain k h).inside.low) in
        rw entry_place (e ∙ place-whole v w g (i + k) j f.box (omega arith) f.row _ f.bounded (f.place (i + k) (omega arith)) (a.certain k h).decided)
