-- `strips::draw_one_color` meets its contract. Assumes nothing.
use mathlib.Core.Path.{ap, ◌∙◌}
use Rattle.words.specs.Word.{word_bytes}
use Rattle.picture.specs.Picture.{patched}
use Rattle.picture.proofs.Rows.{strips-alike}
use Rattle.strips.proofs.draw_one_color.Goals as goal

pub returns-then-z-ge-MANY : goal.returns-then-z-ge-MANY
returns-then-z-ge-MANY c =
    let z = c.args.z in
    c.draw_vertical.ensures ∙ ap (patched c.args.buf.now 0) (strips-alike _ _ z.w z.a z.b (λ i j h k m. ap word_bytes (c.requires.1 _ _)))

pub returns-else-z-ge-MANY : goal.returns-else-z-ge-MANY
returns-else-z-ge-MANY c =
    let z = c.args.z in
    c.draw_horizontal.ensures ∙ ap (patched c.args.buf.now 0) (strips-alike _ _ z.w z.a z.b (λ i j h k m. ap word_bytes (c.requires.1 _ _)))
