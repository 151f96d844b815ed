-- `rowparts::draw_by_stretches` meets its contract. The invariant: the first k pixels stand from `at` on, and t is a stretch of the ramp. Assumes nothing.
use Rattle.std.proofs.Common.{◌≡◌, ◌+◌, ◌*◌, ◌<◌, length, refl, arith}
use Rattle.line.specs.declared.Line.TheVariants as L
use Rattle.picture.proofs.Rows.{part_none}
use Rattle.picture.proofs.Patches.{patch-none}
use Rattle.picture.proofs.Turns.{parts-step}
use Rattle.table.proofs.Stretches.{stretched-none}
use Rattle.rows.specs.Pixel.{ramp_pixel}
use Rattle.rows.proofs.Pixels.{four}
use Rattle.rowparts.proofs.draw_by_stretches.Goals as goal
use Rattle.rowparts.proofs.draw_by_stretches.Goals.{After-slice_known-1}

pub loop-k-init : goal.loop-k-init
loop-k-init c = let a = c.args in (rw part_none (patch-none a.buf.now a.at), omega arith, refl, stretched-none _ _ c.no_stretch-t.ensures)

pub overflow_add-i : goal.overflow_add-i
overflow_add-i c = let p = c.requires in omega (arith, p.2, p.1.box.width)

pub location-requires : goal.location-requires
location-requires c = let p = c.requires in (p.1, omega (arith, p.2))

pub renewed-t-requires : goal.renewed-t-requires
renewed-t-requires c = (c.requires.0, c.loop-k.invariant.3)

pub overflow_add-i-in-loop-k : goal.overflow_add-i-in-loop-k
overflow_add-i-in-loop-k c = let p = c.requires in omega (arith, p.2, p.1.box.width)

pub overflow_mul-k : goal.overflow_mul-k
overflow_mul-k c = let p = c.requires in omega (arith, p.2, p.1.box.width)

short : (c : After-slice_known-1) → length c.args.buf.now < 18446744073709551616
short c = omega arith

pub overflow_add-at : goal.overflow_add-at
overflow_add-at c = omega (arith, c.requires.3, short (goal.at.overflow_add-at c).After-slice_known-1)

pub draw_piece-requires : goal.draw_piece-requires
draw_piece-requires c =
    let p = c.requires in
    let m = c.piece-m.ensures in
    (p.0, c.renewed-t.ensures, p.1, m.0, omega (arith, m.1, p.2), omega (arith, m.1, p.3))

pub overflow_add-k : goal.overflow_add-k
overflow_add-k c = let p = c.requires in omega (arith, c.piece-m.ensures.1, p.2, p.1.box.width)

pub loop-k-smaller : goal.loop-k-smaller
loop-k-smaller c = let m = c.piece-m.ensures in omega (arith, m.0, m.1)

pub loop-k-preserved : goal.loop-k-preserved
loop-k-preserved c =
    let a = c.args in
    let l = c.loop-k in
    let m = c.piece-m in (
      parts-step (ramp_pixel a.ramp.now (L.Straight a.v) a.z.w a.z.h) (four a.ramp.now (L.Straight a.v) a.z.w a.z.h) a.buf.now l.buf _ a.at (a.at + 4 * l.k) a.i l.k m.result a.j
          refl (omega (arith, c.requires.3, m.ensures.1)) l.invariant.0 c.draw_piece.ensures,
      omega (arith, m.ensures.1),
      omega arith,
      c.renewed-t.ensures,
    )

pub shape_of-buf : goal.shape_of-buf
shape_of-buf c = c.loop-k.invariant.2

pub returns : goal.returns
returns c =
    let e : c.loop-k.k ≡ c.args.n = omega arith in
    rw e at c.loop-k.invariant.0
