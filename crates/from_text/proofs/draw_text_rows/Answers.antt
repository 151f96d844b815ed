-- `from_text::draw_text_rows` meets its contract. Assumes nothing.
use mathlib.Core.Path.{refl, sym}
use Rattle.from_text.proofs.Texts.{drawable-text, drawn-text}
use Rattle.from_text.proofs.draw_text_rows.Goals as goal

pub draw_strip-requires : goal.draw_strip-requires
draw_strip-requires c = drawable-text _ _ _ c.in-Ok.ensures.gradient _ _ _ (sym c.in-Ok.ensures.reply)

pub returns-in-Ok : goal.returns-in-Ok
returns-in-Ok c = drawn-text _ _ _ c.in-Ok.ensures.gradient _ _ _ (sym c.in-Ok.ensures.reply) _ _ refl c.draw_strip.ensures
