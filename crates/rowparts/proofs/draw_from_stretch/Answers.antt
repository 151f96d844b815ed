-- `rowparts::draw_from_stretch` meets its contract. Assumes nothing.
use Rattle.std.proofs.Common.{◌≡◌, ℕ, ◌+◌, ◌*◌, ◌/◌, ◌<◌, List, refl, ap, ◌∙◌, add-zero, arith}
use Rattle.line.specs.Represented.{rule_in}
use Rattle.line.specs.declared.Line.TheVariants as L
use Rattle.words.specs.Word.{word_bytes}
use Rattle.picture.specs.Picture.{patched}
use Rattle.picture.proofs.Rows.{part_none}
use Rattle.picture.proofs.Patches.{patch-none}
use Rattle.picture.proofs.Turns.{part_step}
use Rattle.rows.specs.Pixel.{pixel_by}
use Rattle.rowparts.proofs.Certain.{entry-within, entry-location}
use Rattle.rowparts.proofs.draw_from_stretch.Goals as goal
use Rattle.rowparts.proofs.draw_from_stretch.Goals.{In-loop-k}

pub place-requires : goal.place-requires
place-requires c = rw add-zero at (c.requires.1.fits 0 c.requires.0)

pub loop-k-init : goal.loop-k-init
loop-k-init c = (omega arith, λ color v w h j held located. rw part_none (patch-none c.args.buf.now c.args.at))

-- the location is in the stretch
within : (c : In-loop-k) → c.loop-k.e / 33554432 < c.args.t.count
within c =
    let a = c.args in
    let l = c.loop-k in
    rw (l.invariant.0, c.place.ensures)
    (entry-within a.r a.i a.n a.t.first (a.t.count) c.step-step.result c.requires.0 c.requires.1 c.step-step.ensures l.k c.loop-k-test.true)

pub overflow_cast-e : goal.overflow_cast-e
overflow_cast-e c = omega (arith, within (goal.at.overflow_cast-e c).In-loop-k, c.requires.2.few)

pub color_in-requires : goal.color_in-requires
color_in-requires c = (c.requires.2, omega (arith, within (goal.at.color_in-requires c).In-loop-k))

pub loop-k-preserved : goal.loop-k-preserved
loop-k-preserved c =
    let a = c.args in
    let l = c.loop-k in
    let o : ℕ = a.at + 4 * l.k in (
      omega (arith, l.invariant.0),
      λ color v w h j held located.
          let px : (ℕ → ℕ → List ℕ) = pixel_by (rule_in (L.Straight v) w h) color in
          let e : c.put_word.new.buf ≡ patched l.buf o (px (a.i + l.k) j) =
          c.put_word.ensures
          ∙ ap (λ (n : ℕ). patched l.buf o (word_bytes n))
          (c.color_in.ensures color held ∙ ap color (ap (λ (z : ℕ). a.t.first + z / 33554432) l.invariant.0 ∙ located l.k c.loop-k-test.true)) in
          part_step px (λ x y. refl) a.buf.now l.buf _ a.at o a.i l.k j refl (omega arith) (l.invariant.1 color v w h j held located) e,
    )

pub returns : goal.returns
returns c = λ color v w h j held follows room.
    let a = c.args in
    let l = c.loop-k in
    let e : l.k ≡ a.n = omega arith in
    rw e at
    (l.invariant.1 color v w h j held
    (λ m b. rw c.place.ensures
    (entry-location a.r a.i a.n a.t.first (a.t.count) c.step-step.result c.requires.0 c.requires.1 c.step-step.ensures m b v w h j follows room)))
