-- `table::LentStops::fill_run` meets its contract. Assumes nothing.
use mathlib.Core.Path.{◌≡◌, sym, ◌∙◌}
use Prim.Native.Nat.{ℕ, suc, ◌+◌, ◌-◌, ◌*◌}
use native.Mathlib.Omega.{arith}
use lib.Dec.{leb}
use lib.ListN.{length}
use Rattle.color.proofs.Place.{last}
use Rattle.table.proofs.Stores.{stored_same}
use Rattle.table.proofs.Runs.{flat-first, flat-last}
use Rattle.table.proofs.lent.LentStops.fill_run.Goals as goal
use Rattle.table.proofs.lent.LentStops.fill_run.Goals.{Start, then-place-eq0-via-then-place-eq0, then-place-eq0-via-else-place-eq0+then-place-self}

pub returns-then-place-eq0 : goal.returns-then-place-eq0
returns-then-place-eq0 c =
    let a = c.args in elim c.then-place-eq0.branch [
      | then-place-eq0-via-then-place-eq0 w ↦
          stored_same _ _ a.at a.end a.t.now _
          (λ k l m. c.color_of.ensures
          ∙ flat-first a.self.positions.now a.self.values.now c.args.self.lent a.first a.stride a.at a.end (length a.t.now) c.requires.0
          (sym w.if-place-eq0.true ∙ c.requires.1) k l m)
          c.fill_flat.ensures
      | then-place-eq0-via-else-place-eq0+then-place-self w ↦
          let e : suc (a.place - 1) ≡ a.place = omega (arith, w.if-place-eq0.false) in
          stored_same _ _ a.at a.end a.t.now _
          (λ k l m. c.color_of.ensures
          ∙ flat-last a.self.positions.now a.self.values.now c.args.self.lent a.first a.stride a.at a.end (length a.t.now) c.requires.0 (a.place - 1)
          (e ∙ c.requires.1) (e ∙ w.if-place-self.true) k l m)
          c.fill_flat.ensures
    ]

pub fill_between-requires : goal.fill_between-requires
fill_between-requires c =
    let place = c.args.place in
    let e : place - 1 + 1 ≡ place = omega (arith, c.if-place-eq0.false) in
    let f = c.requires.1 in
    record { run = c.requires.0; i_value = (e ∙ f, omega (arith, c.if-place-self.false, f, (last (λ (p : ℕ). leb p (c.args.first + c.args.at * c.args.stride)) 0 c.args.self.positions.now).within)) }
