-- What the calls of the C side leave of a picture in strips is what they leave of it whole. T-08: "Strips joined in order equal the whole picture,
-- whatever the cuts." The calls are known by what they promise. A text or a gradient that is refused is so in every strip as in the whole, and all
-- that is left of it is zeros.
-- Assumes nothing.
use mathlib.Core.List.{List}
use Prim.Native.Nat.{ℕ, ◌*◌, ◌≤◌}
use native.Mathlib.Nat.{le_refl, sub-zero}
use lib.ListN.{length}
use Rattle.reader.specs.Reading.{read_of}
use Rattle.line.specs.Location.{Rule}
use Rattle.color.specs.Paint.{Paint}
use Rattle.replies.specs.Replies.{◌or_else◌}
use Rattle.replies.specs.Room.{room_reply}
use Rattle.drawing.specs.Drawn.{DrawnRows, Drawn}
use Rattle.drawing.specs.Strips.{InStrips, SameAs}
use Rattle.drawing.proofs.Strips.{RowsCall, strips-joined}
use Rattle.from_text.specs.Text.{draw_rows_reply, draw_text_reply, text_rule, text_paint}
use Rattle.layout.specs.Taken.{taken_reply}
use Rattle.avarezhu.specs.Calls.{draw_gradient_rows_call, draw_gradient_call, taken_rule, taken_paint}

-- all rows of a picture
whole-joined : (judged : ℕ) (rule : Rule) (paint : Paint) (w h : ℕ) {r : ℕ} {before after replies left : List ℕ}
    → InStrips (RowsCall judged rule paint w h) w 0 h replies left → 4 * w * h ≤ length before
    → Drawn (room_reply w h (length before) or_else judged) rule paint w h r before after → SameAs (4 * w * h) r after replies left
whole-joined judged rule paint w h s m d = rw sub-zero at (strips-joined judged rule paint w h s (le_refl h) (rw sub-zero m) d)

-- `avarezhu_draw_rows`, called for rows 0 up to c₁, c₁ up to c₂, .., up to h, and `avarezhu_draw`
pub text-joined : (text : List ℕ) (w h : ℕ) {r : ℕ} {before after replies left : List ℕ}
    → InStrips (λ first end r before after.
    DrawnRows (draw_rows_reply text w h first end (length before)) (text_rule text w h) (text_paint text w h) w first end r before after) w 0 h replies left
    → 4 * w * h ≤ length before → Drawn (draw_text_reply text w h (length before)) (text_rule text w h) (text_paint text w h) w h r before after
    → SameAs (4 * w * h) r after replies left
text-joined text w h s m d = whole-joined (read_of text).reply (text_rule text w h) (text_paint text w h) w h s m d

-- `avarezhu_draw_gradient_rows`, likewise, and `avarezhu_draw_gradient`
pub gradient-joined : (g : List ℕ) (w h : ℕ) {r : ℕ} {before after replies left : List ℕ}
    → InStrips (λ first end r before after.
    DrawnRows (draw_gradient_rows_call g w h first end (length before)) (taken_rule g w h) (taken_paint g w h) w first end r before after) w 0 h replies left
    → 4 * w * h ≤ length before → Drawn (draw_gradient_call g w h (length before)) (taken_rule g w h) (taken_paint g w h) w h r before after
    → SameAs (4 * w * h) r after replies left
gradient-joined g w h s m d = whole-joined (taken_reply g) (taken_rule g w h) (taken_paint g w h) w h s m d
