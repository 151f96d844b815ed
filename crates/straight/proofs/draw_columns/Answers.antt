-- `straight::draw_columns` meets its contract. Assumes nothing.
use mathlib.Core.Path.{◌≡◌}
use mathlib.Core.List.{List, append-nil}
use Prim.Native.Nat.{ℕ, ◌+◌, ◌-◌, ◌*◌, ◌≤◌}
use native.Mathlib.Omega.{arith}
use lib.ListN.{length}
use Rattle.line.specs.declared.Line.TheVariants as L
use Rattle.picture.proofs.Rows.{strip-none, times-room}
use Rattle.rows.specs.Pixel.{ramp_pixel}
use Rattle.rows.proofs.Pixels.{four}
use Rattle.straight.proofs.Columns.{columns-step}
use Rattle.straight.proofs.draw_columns.Goals as goal
use Rattle.straight.proofs.draw_columns.Goals.{In-loop-j}

pub loop-j-init : goal.loop-j-init
loop-j-init c = λ f d g l e. rw strip-none e

-- row j and what follows it have room
room : (c : In-loop-j) → c.args.at + 4 * c.args.z.w * (c.loop-j.j - c.args.z.a) + 4 * c.args.z.w ≤ length c.args.buf.now
room c = omega (arith, c.requires.5, times-room (4 * c.args.z.w) c.args.z.a c.args.z.b c.loop-j.j (omega arith) (omega arith))

pub draw_part-requires : goal.draw_part-requires
draw_part-requires c =
    (c.requires.0, c.row_line-r.ensures, c.requires.6, omega (arith, room (goal.at.draw_part-requires c).In-loop-j, c.requires.6))

pub loop-j-preserved : goal.loop-j-preserved
loop-j-preserved c = λ f d g m begun.
    let a = c.args in
    let l = c.loop-j in
    let px : (ℕ → ℕ → List ℕ) = ramp_pixel a.ramp.now (L.Straight a.v) a.z.w a.z.h in
    let e : a.z.w ≡ a.i + a.n + (a.z.w - (a.i + a.n)) = omega (arith, c.requires.6) in
    columns-step px f (four a.ramp.now (L.Straight a.v) a.z.w a.z.h) g a.z.w a.i a.n (a.z.w - (a.i + a.n)) l.j e a.z.a a.z.b a.at
    (a.at + 4 * a.z.w * (l.j - a.z.a) + 4 * a.i) d l.buf _
    (omega arith) (omega arith) (omega (arith, c.requires.5)) (omega arith) (l.invariant f d g m begun) c.draw_part.ensures

pub returns : goal.returns
returns c = λ f d g m begun.
    let a = c.args in
    let e : c.loop-j.j ≡ a.z.b = omega arith in
    rw (strip-none, append-nil) at (rw e at (c.loop-j.invariant f d g m begun))
