-- `straight::draw_rows` meets its contract. Assumes nothing.
use mathlib.Core.Path.{refl, sym}
use mathlib.Core.List.{List}
use Prim.Native.Nat.{ℕ, ◌+◌, ◌-◌, ◌*◌, ◌≤◌}
use native.Mathlib.Omega.{arith}
use lib.ListN.{length}
use Rattle.line.specs.declared.Line.TheVariants as L
use Rattle.picture.specs.Picture.{part}
use Rattle.picture.proofs.Rows.{row-part, strip-none, times-room}
use Rattle.picture.proofs.Patches.{patch-none}
use Rattle.rows.specs.Pixel.{ramp_pixel}
use Rattle.rows.proofs.Pixels.{four, rows-turn}
use Rattle.straight.proofs.draw_rows.Goals as goal
use Rattle.straight.proofs.draw_rows.Goals.{In-loop-j}

pub loop-j-init : goal.loop-j-init
loop-j-init c = rw strip-none (patch-none c.args.buf.now 0)

-- row j has room
room : (c : In-loop-j) → 4 * c.args.z.w * (c.loop-j.j - c.args.z.a) + 4 * c.args.z.w ≤ length c.args.buf.now
room c = omega (arith, c.requires.3.room, times-room (4 * c.args.z.w) c.args.z.a c.args.z.b c.loop-j.j (omega arith) (omega arith))

pub draw_by_stretches-requires : goal.draw_by_stretches-requires
draw_by_stretches-requires c = (c.requires.0, c.row_line-r.ensures, omega arith, omega (arith, room (goal.at.draw_by_stretches-requires c).In-loop-j))

pub loop-j-preserved : goal.loop-j-preserved
loop-j-preserved c =
    let a = c.args in
    let l = c.loop-j in
    let px : (ℕ → ℕ → List ℕ) = ramp_pixel a.ramp.now (L.Straight a.v) a.z.w a.z.h in
    rows-turn px (four a.ramp.now (L.Straight a.v) a.z.w a.z.h) a.z.w a.z.a a.z.b l.j (4 * a.z.w * (l.j - a.z.a)) a.buf.now l.buf _ (part px 0 a.z.w l.j)
    (omega arith) (omega arith) refl c.requires.3.room l.invariant (sym (row-part px a.z.w l.j)) c.draw_by_stretches.ensures
