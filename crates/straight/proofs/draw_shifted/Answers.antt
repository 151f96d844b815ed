-- `straight::draw_shifted` meets its contract. Assumes nothing.
use mathlib.Core.Path.{◌≡◌, refl}
use mathlib.Core.List.{List}
use Prim.Native.Nat.{ℕ, ◌+◌, ◌-◌, ◌*◌, ◌≤◌}
use native.Mathlib.Nat.{mul-le-mul_left}
use native.Mathlib.Omega.{arith}
use lib.ListN.{length}
use Rattle.line.specs.declared.Line.TheVariants as L
use Rattle.picture.specs.Picture.{row}
use Rattle.picture.proofs.Rows.{times-room}
use Rattle.rows.specs.Pixel.{ramp_pixel}
use Rattle.rows.proofs.Pixels.{four, rows-turn}
use Rattle.straight.proofs.Shifts.{row-stands}
use Rattle.straight.proofs.draw_shifted.Goals as goal
use Rattle.straight.proofs.draw_shifted.Goals.{In-loop-j, Start}

pub loop-j-init : goal.loop-j-init
loop-j-init c = c.requires.2

-- row j fits into the buffer, and the earlier row ends before it
module _ (c : In-loop-j) where
  room : 4 * c.args.z.w * (c.loop-j.j - c.args.z.a) + 4 * c.args.z.w ≤ length c.loop-j.buf
  room = omega (arith, c.requires.1.straight.strip.room, times-room (4 * c.args.z.w) c.args.z.a c.args.z.b c.loop-j.j (omega arith) (omega arith))

  apart : 4 * c.args.z.w * (c.loop-j.j - c.args.z.a - c.args.s.rows) + 4 * c.args.z.w ≤ 4 * c.args.z.w * (c.loop-j.j - c.args.z.a)
  apart =
      let k : c.loop-j.j - c.args.z.a - c.args.s.rows + 1 ≤ c.loop-j.j - c.args.z.a = omega (arith, c.requires.1.copies.some) in
      omega (arith, mul-le-mul_left (4 * c.args.z.w) k)

pub draw_next-requires : goal.draw_next-requires
draw_next-requires c =
    let a = c.args in
    let l = c.loop-j in
    let px : (ℕ → ℕ → List ℕ) = ramp_pixel a.ramp.now (L.Straight a.v) a.z.w a.z.h in
    let i : ℕ = l.j - a.z.a in
    let e : i - a.s.rows ≡ l.j - a.s.rows - a.z.a = omega arith in (
      record {
        ramp = c.requires.0;
        box = c.requires.1.straight.box;
        even = c.requires.1.copies.even;
        narrow = c.requires.1.copies.within;
        later = omega arith;
        within = omega (arith, c.requires.1.straight.strip.within);
        stands = row-stands px (four a.ramp.now (L.Straight a.v) a.z.w a.z.h) a.z.w a.z.a (l.j - a.s.rows) l.j (4 * a.z.w * (i - a.s.rows))
            a.buf.now l.buf (omega arith) (omega (arith, c.requires.1.copies.some)) (rw e refl)
            (omega (arith, room (goal.at.draw_next-requires c).In-loop-j, apart (goal.at.draw_next-requires c).In-loop-j)) l.invariant;
        apart = apart (goal.at.draw_next-requires c).In-loop-j;
        room = room (goal.at.draw_next-requires c).In-loop-j;
      },
      c.requires.3,
    )

pub loop-j-preserved : goal.loop-j-preserved
loop-j-preserved c =
    let a = c.args in
    let l = c.loop-j in
    let px : (ℕ → ℕ → List ℕ) = ramp_pixel a.ramp.now (L.Straight a.v) a.z.w a.z.h in
    rows-turn px (four a.ramp.now (L.Straight a.v) a.z.w a.z.h) a.z.w a.z.a a.z.b l.j (4 * a.z.w * (l.j - a.z.a)) a.buf.now l.buf _ (row px a.z.w l.j)
    (omega arith) (omega arith) refl c.requires.1.straight.strip.room l.invariant refl c.draw_next.ensures

pub returns : goal.returns
returns c =
    let e : c.loop-j.j ≡ c.args.z.b = omega (arith, c.requires.1.copies.fewer) in
    rw e at c.loop-j.invariant
