-- `rowparts::draw_from_table` meets its contract. Assumes nothing.
use Rattle.std.proofs.Common.{◌≡◌, ℕ, ◌+◌, ◌*◌, ◌/◌, ◌<◌, List, refl, ap, ◌∙◌, length, add-zero, arith}
use Rattle.line.specs.Represented.{rule_in}
use Rattle.line.specs.declared.Line.TheVariants as L
use Rattle.words.specs.Word.{word_bytes}
use Rattle.picture.specs.Picture.{patched}
use Rattle.picture.proofs.Rows.{part_none}
use Rattle.picture.proofs.Patches.{patch-none}
use Rattle.picture.proofs.Turns.{part_step}
use Rattle.rows.specs.Pixel.{pixel_by}
use Rattle.rowparts.proofs.Certain.{from-base, entry-within, entry-location}
use Rattle.rowparts.proofs.draw_from_table.Goals as goal
use Rattle.rowparts.proofs.draw_from_table.Goals.{In-loop-k}

pub place-requires : goal.place-requires
place-requires c = rw add-zero at (c.requires.1.fits 0 c.requires.0)

pub overflow_sub-e : goal.overflow_sub-e
overflow_sub-e c =
    let a = c.args in
    omega (arith, c.from.ensures, c.place.ensures, from-base a.r a.i a.n a.base (length a.t.now) c.step-step.result c.requires.0 c.requires.1 c.step-step.ensures)

pub loop-k-init : goal.loop-k-init
loop-k-init c = (omega arith, λ color v w h j held located. rw part_none (patch-none c.args.buf.now c.args.at))

-- the location is in the table
within : (c : In-loop-k) → c.loop-k.e / 33554432 < length c.args.t.now
within c =
    let a = c.args in
    let l = c.loop-k in
    rw (l.invariant.0, c.place.ensures, c.from.ensures)
    (entry-within a.r a.i a.n a.base (length a.t.now) c.step-step.result c.requires.0 c.requires.1 c.step-step.ensures l.k c.loop-k-test.true)

pub bounds-t-e : goal.bounds-t-e
bounds-t-e c = within (goal.at.bounds-t-e c).In-loop-k

pub loop-k-preserved : goal.loop-k-preserved
loop-k-preserved c =
    let a = c.args in
    let l = c.loop-k in
    let o : ℕ = a.at + 4 * l.k in (
      omega (arith, l.invariant.0),
      λ color v w h j held located.
          let px : (ℕ → ℕ → List ℕ) = pixel_by (rule_in (L.Straight v) w h) color in
          let e : c.put_word.new.buf ≡ patched l.buf o (px (a.i + l.k) j) =
          c.put_word.ensures
          ∙ ap (λ (n : ℕ). patched l.buf o (word_bytes n))
          (held (l.e / 33554432) (within (goal.at.loop-k-preserved c).In-loop-k) ∙ ap color (ap (λ (z : ℕ). a.base + z / 33554432) l.invariant.0 ∙ located l.k c.loop-k-test.true)) in
          part_step px (λ x y. refl) a.buf.now l.buf _ a.at o a.i l.k j refl (omega arith) (l.invariant.1 color v w h j held located) e,
    )

pub returns : goal.returns
returns c = λ color v w h j held follows room.
    let a = c.args in
    let l = c.loop-k in
    let e : l.k ≡ a.n = omega arith in
    rw e at
    (l.invariant.1 color v w h j held
    (λ m b. rw (c.place.ensures, c.from.ensures)
    (entry-location a.r a.i a.n a.base (length a.t.now) c.step-step.result c.requires.0 c.requires.1 c.step-step.ensures m b v w h j follows room)))
