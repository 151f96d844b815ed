-- `straight::draw_with_copies` meets its contract. Assumes nothing.
use mathlib.Core.List.{List}
use Prim.Native.Nat.{ℕ, ◌+◌, ◌-◌, ◌*◌, ◌≤◌, ◌<◌}
use native.Mathlib.Nat.{mul-le-mul_left}
use native.Mathlib.Omega.{arith}
use Rattle.line.specs.declared.Line.TheVariants as L
use Rattle.rows.specs.Pixel.{ramp_pixel}
use Rattle.rows.proofs.Pixels.{four}
use Rattle.straight.proofs.Shifts.{first-stand, all-drawn}
use Rattle.straight.proofs.draw_with_copies.Goals as goal
use Rattle.straight.proofs.draw_with_copies.Goals.{Start}

-- the first rows end before the last
ends : (c : Start) → c.args.z.a + c.args.s.rows < c.args.z.b
ends c = omega (arith, c.requires.1.copies.fewer)

pub draw_new-requires : goal.draw_new-requires
draw_new-requires c =
    let a = c.args in
    let p = c.requires.1 in
    let m : a.z.a + a.s.rows - a.z.a ≤ a.z.b - a.z.a = omega (arith, ends (goal.at.draw_new-requires c).Start) in (
      c.requires.0,
      p.straight.box,
      c.requires.2,
      record { some = omega (arith, p.copies.some); within = omega (arith, ends (goal.at.draw_new-requires c).Start, p.straight.strip.within); room = omega (arith, p.straight.strip.room, mul-le-mul_left (4 * a.z.w) m) },
    )

pub draw_shifted-requires : goal.draw_shifted-requires
draw_shifted-requires c =
    let a = c.args in
    let p = c.requires.1 in
    let px : (ℕ → ℕ → List ℕ) = ramp_pixel a.ramp.now (L.Straight a.v) a.z.w a.z.h in (
      c.requires.0,
      record { straight = record { bounded = p.straight.bounded; box = p.straight.box; strip = record { some = p.straight.strip.some; within = p.straight.strip.within; room = omega (arith, p.straight.strip.room) } }; copies = p.copies },
      first-stand px (four a.ramp.now (L.Straight a.v) a.z.w a.z.h) a.z.w a.z.a (a.z.a + a.s.rows) a.z.b a.buf.now _
          (omega arith) (omega (arith, ends (goal.at.draw_shifted-requires c).Start)) p.straight.strip.room c.draw_new.ensures,
      c.requires.2,
    )

pub returns : goal.returns
returns c =
    let a = c.args in
    let px : (ℕ → ℕ → List ℕ) = ramp_pixel a.ramp.now (L.Straight a.v) a.z.w a.z.h in
    all-drawn px (four a.ramp.now (L.Straight a.v) a.z.w a.z.h) a.z.w a.z.a (a.z.a + a.s.rows) a.z.b a.buf.now _
    (omega arith) (omega (arith, ends (goal.at.returns c).Start)) c.requires.1.straight.strip.room c.draw_new.ensures _ c.draw_shifted.ensures
