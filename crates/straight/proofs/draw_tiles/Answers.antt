-- `straight::draw_tiles` meets its contract. The invariant: the rows before row j have the columns up to `end`, those from there on up to `from`.
-- Assumes nothing.
use mathlib.Core.Path.{◌≡◌, refl}
use mathlib.Core.List.{List, append-nil}
use Prim.Native.Nat.{ℕ, ◌+◌, ◌-◌, ◌*◌, ◌≤◌, ◌<◌}
use native.Mathlib.Nat.{mul-zero, add-zero, sub_self, mul-le-mul_left}
use native.Mathlib.Omega.{arith}
use lib.ListN.{length}
use mir.Syntax.{w64}
use mir.Val.{Fits}
use Rattle.line.specs.declared.Line.TheVariants as L
use Rattle.picture.proofs.Rows.{strip-none}
use Rattle.rows.specs.Pixel.{ramp_pixel}
use Rattle.rows.proofs.Pixels.{four}
use Rattle.straight.proofs.Columns.{rows_step}
use Rattle.straight.proofs.draw_tiles.Goals as goal
use Rattle.straight.proofs.draw_tiles.Goals.{After-min-n}

pub loop-j-init : goal.loop-j-init
loop-j-init c =
    (rw (sub_self, mul-zero, add-zero), omega arith, c.requires.3, refl, λ f d g l e. rw strip-none e)

-- n rows more have room
room : (c : After-min-n) → (c.loop-j.o + 4 * c.args.z.w * c.min-n.result ≤ length c.args.buf.now) × Fits w64 (c.loop-j.o + 4 * c.args.z.w * c.min-n.result)
room c =
    let a = c.args in
    let l = c.loop-j in
    let m : 4 * a.z.w * (l.j - a.z.a + c.min-n.result) ≤ 4 * a.z.w * (a.z.b - a.z.a) = mul-le-mul_left (4 * a.z.w) (omega (arith, c.min-n.ensures)) in
    let r : l.o + 4 * a.z.w * c.min-n.result ≤ length a.buf.now = omega (arith, c.requires.5) in
    let short : length a.buf.now < 18446744073709551616 = omega arith in
    (r, omega (arith, r, short))

pub overflow_add-band : goal.overflow_add-band
overflow_add-band c = omega (arith, c.min-n.ensures)

pub draw_band-requires : goal.draw_band-requires
draw_band-requires c =
    let p = c.requires in
    let l = c.loop-j in
    let n = c.min-n.ensures in
    let e : l.j + c.min-n.result - l.j ≡ c.min-n.result = omega arith in
    (p.0, p.1, p.2, omega arith, omega (arith, n, p.4), rw e (omega (arith, (room (goal.at.draw_band-requires c).After-min-n).0, l.invariant.3)), p.6, p.7)

pub overflow_mul-o : goal.overflow_mul-o
overflow_mul-o c = omega (arith, c.requires.1.width)

pub overflow_mul-o-in-loop-j : goal.overflow_mul-o-in-loop-j
overflow_mul-o-in-loop-j c = omega (arith, (room (goal.at.overflow_mul-o-in-loop-j c).After-min-n).1.fits)

pub overflow_add-o : goal.overflow_add-o
overflow_add-o c = (room (goal.at.overflow_add-o c).After-min-n).1

pub overflow_add-j : goal.overflow_add-j
overflow_add-j c = omega (arith, c.min-n.ensures)

pub loop-j-smaller : goal.loop-j-smaller
loop-j-smaller c = omega (arith, c.min-n.ensures)

pub loop-j-preserved : goal.loop-j-preserved
loop-j-preserved c =
    let a = c.args in
    let l = c.loop-j in
    let n = c.min-n.result in
    let h = c.min-n.ensures in
    let px : (ℕ → ℕ → List ℕ) = ramp_pixel a.ramp.now (L.Straight a.v) a.z.w a.z.h in
    let q : l.j + n - a.z.a ≡ l.j - a.z.a + n = omega (arith, l.invariant.1) in (
      rw q (omega arith),
      omega arith,
      omega (arith, h),
      omega arith,
      λ f d g m begun. rows_step px f (four a.ramp.now (L.Straight a.v) a.z.w a.z.h) g a.z.w a.from a.end a.z.a a.z.b l.j (l.j + n) a.at l.o d l.buf _
          l.invariant.1 (omega arith) (omega (arith, h)) (omega (arith, c.requires.5)) l.invariant.0 (l.invariant.4 f d g m begun) c.draw_band.ensures,
    )

pub shape_of-buf : goal.shape_of-buf
shape_of-buf c = c.loop-j.invariant.3

pub returns : goal.returns
returns c = λ f d g m begun.
    let e : c.loop-j.j ≡ c.args.z.b = omega arith in
    rw (strip-none, append-nil) at (rw e at (c.loop-j.invariant.4 f d g m begun))
