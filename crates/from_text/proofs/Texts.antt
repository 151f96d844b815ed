-- From what is said of a gradient to what is said of the text that it was read from.
-- Assumes nothing.
use mathlib.Core.Path.{◌≡◌, sym, ap, ◌∙◌}
use mathlib.Core.Bool.{false≢true}
use mathlib.Core.List.{List}
use Prim.Native.Nat.{ℕ}
use native.Mathlib.Omega.{arith}
use lib.ListN.{length}
use Rattle.std.specs.Prelude.{Result, Ok, Err, IfOk}
use Rattle.std.specs.Result.{IsErr, IsErrAnd}
use Rattle.replies.specs.Replies.{done}
use Rattle.replies.specs.Refused.{number, reply_of}
use Rattle.replies.specs.declared.Refusal.{Refusal}
use Rattle.replies.specs.Room.{box_reply, strip_reply}
use Rattle.replies.proofs.Laws.{number-above, or_else-zero, or_else-first, or_else-next, box-zero}
use Rattle.gradient.specs.declared.Gradient.{Gradient}
use Rattle.gradient.specs.Check.{Accepted, check_of}
use Rattle.gradient.proofs.Laws.{accepted}
use Rattle.line.specs.Box.{Box}
use Rattle.line.specs.Line.{rule_of}
use Rattle.line.proofs.Bounds.{bounds}
use Rattle.reader.specs.Reading.{Reading, reading, read_of}
use Rattle.reader.proofs.Accepted.{read-accepted}
use Rattle.stops.specs.declared.PlacedStops.{PlacedStops}
use Rattle.placing.specs.Placed.{placed_in, listed}
use Rattle.placing.specs.Reply.{placing, place_reply, place_of}
use Rattle.placing.proofs.Replies.{err_placing}
use Rattle.rows.specs.Pixel.{Rows}
use Rattle.drawing.specs.Drawn.{DrawnRows}
use Rattle.drawing.specs.Inner.{Painted}
use Rattle.drawing.proofs.Accepted.{roomy}
use Rattle.drawing.proofs.Accurate.{drawn}
use Rattle.from_text.specs.Text.{place_text_reply, place_text_of, draw_rows_reply, text_rule, text_paint}

-- ---- what was read, by its reply and by its gradient
pub read_reply : (a : Result Gradient Refusal) {x : Reading} → reading a ≡ x → reply_of a ≡ x.reply
read_reply (Ok g) e = ap (λ (x : Reading). x.reply) e
read_reply (Err r) e = ap (λ (x : Reading). x.reply) e

pub read_gradient : (a : Result Gradient Refusal) {x : Reading} → reading a ≡ x → IfOk a (λ g. g ≡ x.gradient)
read_gradient (Ok g) e = ap (λ (x : Reading). x.gradient) e
read_gradient (Err r) e = tt

-- a refusal, as a `?` hands it on, holds no gradient
pub no_gradient : (P : Gradient → Type 0) (a : Result Gradient Refusal) (r : Refusal) → IsErr a × IsErrAnd a (λ x. x ≡ r) → IfOk a P
no_gradient P (Ok g) r k = absurd (false≢true k.0)
no_gradient P (Err x) r k = tt

-- ---- placing
module _ (text : List ℕ) (w h : ℕ) where
  module _ (a : Result PlacedStops Refusal) (r : Refusal) (k : IsErr a × IsErrAnd a (λ x. x ≡ r)) where
    no-stops : number r ≡ place_text_reply text w h → placing a ≡ place_text_of text w h
    unfolding place_text_of
    no-stops e = err_placing a r (listed (placed_in (read_of text).gradient w h)) k e

    -- the box is refused, or the text
    pub box-refused : number r ≡ box_reply w h → placing a ≡ place_text_of text w h
    unfolding place_text_reply
    box-refused e = no-stops (or_else-first _ e (λ z. let p = number-above r in omega (arith, z)))

    pub text-refused : done ≡ box_reply w h → reading (Err r) ≡ read_of text → placing a ≡ place_text_of text w h
    unfolding place_text_reply
    text-refused d e = no-stops (or_else-next (sym d) (ap (λ (x : Reading). x.reply) e))

  -- what is placed for a gradient that was read
  pub placed-text : (g : Gradient) → done ≡ box_reply w h → reading (Ok g) ≡ read_of text → place_of g w h ≡ place_text_of text w h
  unfolding place_of place_reply place_text_of place_text_reply
  placed-text g d e =
      let z : (read_of text).reply ≡ 0 = sym (ap (λ (x : Reading). x.reply) e) in
      rw (ap (λ (x : Reading). x.gradient) e, box-zero w h (sym d), read-accepted text z, z)

-- ---- drawing
module _ (text : List ℕ) (w h : ℕ) {g : Gradient} (e : g ≡ (read_of text).gradient) (a b n : ℕ) (zero : draw_rows_reply text w h a b n ≡ 0) where
  room : strip_reply w h a b n ≡ 0
  room = (or_else-zero _ _ zero).0

  -- a gradient that was read can be drawn
  pub drawable-text : Box w h × Accepted g × Rows (record { w = w; h = h; a = a; b = b }) n
  drawable-text =
      let k = roomy w h a b n room in
      (k.box, accepted g (ap check_of e ∙ read-accepted text (or_else-zero _ _ zero).1), k.rows)

  -- and what is painted of it is drawn of the text
  pub drawn-text : (before after : List ℕ) → n ≡ length before → Painted (rule_of g.shape w h) g.repeating (placed_in g w h) w a b before after
      → DrawnRows (draw_rows_reply text w h a b n) (text_rule text w h) (text_paint text w h) w a b 0 before after
  drawn-text before after s d =
      let k = rw e at d in
      drawn (draw_rows_reply text w h a b n) (text_rule text w h) w a b before after (read_of text).gradient.repeating (placed_in (read_of text).gradient w h)
      (bounds.some-scale (read_of text).gradient.shape w h (roomy w h a b n room).box) zero k
