-- `rows::draw_each` meets its contract. The invariant: the rows from a up to j stand from the buffer's start on. Assumes nothing.
use Rattle.rows.proofs.Pixels.{four, rows-turn}
use mathlib.Core.Path.{refl}
use mathlib.Core.List.{List}
use Prim.Native.Nat.{ℕ, ◌*◌}
use native.Mathlib.Omega.{arith}
use Rattle.picture.specs.Picture.{row}
use Rattle.picture.proofs.Rows.{strip-none, times-room}
use Rattle.picture.proofs.Patches.{patch-none}
use Rattle.rows.specs.Pixel.{ramp_pixel}
use Rattle.rows.proofs.draw_each.Goals as goal

pub loop-j-init : goal.loop-j-init
loop-j-init c = (rw strip-none (patch-none c.args.buf.now 0), refl)

pub draw_row-requires : goal.draw_row-requires
draw_row-requires c =
    let l = c.loop-j in
    (c.requires.stops, c.requires.placed, omega (arith, c.requires.rows.within), omega (arith, c.requires.rows.room, times-room (4 * c.args.z.w) c.args.z.a c.args.z.b l.j (omega arith) (omega arith)))

pub loop-j-preserved : goal.loop-j-preserved
loop-j-preserved c =
    let a = c.args in
    let l = c.loop-j in
    let px : (ℕ → ℕ → List ℕ) = ramp_pixel a.ramp.now a.l a.z.w a.z.h in (
      rows-turn px (four a.ramp.now a.l a.z.w a.z.h) a.z.w a.z.a a.z.b l.j _ a.buf.now l.buf _ (row px a.z.w l.j)
          (omega arith) (omega arith) refl c.requires.rows.room l.invariant.0 refl c.draw_row.ensures,
      omega arith,
    )
