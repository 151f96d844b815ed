-- `circle::draw_rows` meets its contract. Assumes nothing.
use mathlib.Core.Path.{refl, ◌∙◌}
use mathlib.Core.List.{List}
use Prim.Native.Nat.{ℕ, ◌+◌, ◌-◌, ◌*◌, ◌≤◌}
use native.Mathlib.Omega.{arith}
use lib.ListN.{length}
use Rattle.line.specs.declared.Line.TheVariants as L
use Rattle.picture.specs.Picture.{row}
use Rattle.picture.proofs.Rows.{strip-none, times-room}
use Rattle.picture.proofs.Patches.{patch-none}
use Rattle.rows.specs.Pixel.{ramp_pixel}
use Rattle.rows.proofs.Pixels.{four, rows-turn}
use Rattle.circle.proofs.Mirrors.{mirror-turn, symmetric}
use Rattle.circle.proofs.draw_rows.Goals as goal
use Rattle.circle.proofs.draw_rows.Goals.{then-m-j, else-m-j}

pub loop-j-init : goal.loop-j-init
loop-j-init c = (rw strip-none (patch-none c.args.buf.now 0), tt)

pub copy_row-requires : goal.copy_row-requires
copy_row-requires c =
    let z = c.args.z in
    let m = c.mirrored-m in (
      omega (arith, times-room (4 * z.w) z.a c.loop-j.j m.result m.ensures.after c.if-m-j.true),
      omega (arith, c.requires.5.room, times-room (4 * z.w) z.a z.b c.loop-j.j (omega arith) (omega arith)),
    )

pub loop-j-preserved : goal.loop-j-preserved
loop-j-preserved c =
    let a = c.args in
    let l = c.loop-j in
    let o : ℕ = 4 * a.z.w * (l.j - a.z.a) in
    let room : o + 4 * a.z.w ≤ length a.buf.now = omega (arith, c.requires.5.room, times-room (4 * a.z.w) a.z.a a.z.b l.j (omega arith) (omega arith)) in
    let px : (ℕ → ℕ → List ℕ) = ramp_pixel a.ramp.now (L.Circle a.c) a.z.w a.z.h in (
      elim c.if-m-j.branch [
        | then-m-j v ↦
            v.buf-is
            ∙ mirror-turn a.ramp.now a.c a.z.w a.z.h a.z.a a.z.b l.j c.mirrored-m.result o a.buf.now l.buf _
            c.mirrored-m.ensures v.if-m-j.true (omega arith) refl c.requires.5.room l.invariant.0 v.copy_row.ensures
        | else-m-j v ↦
            v.buf-is
            ∙ rows-turn px (four a.ramp.now (L.Circle a.c) a.z.w a.z.h) a.z.w a.z.a a.z.b l.j o a.buf.now l.buf _ (row px a.z.w l.j)
            (omega arith) (omega arith) refl c.requires.5.room l.invariant.0 refl
            (v.mirror.ensures px l.j l.buf (symmetric a.ramp.now a.c a.z.w a.z.h a.n l.j c.requires.1) v.draw_turn.ensures.0 (omega arith))
      ],
      elim c.if-m-j.branch [
        | then-m-j v ↦ rw v.known-is tt
        | else-m-j v ↦ rw (v.p-is, v.q-is, v.known-is, v.one_more-known.ensures) v.draw_turn.ensures.1
      ],
    )
