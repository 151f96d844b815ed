-- `from_text::place_text` meets its contract. Assumes nothing.
use mathlib.Core.Path.{◌≡◌, refl, sym, ap, ◌∙◌}
use mathlib.Core.Bool.{Bool, not}
use Prim.Native.Nat.{ℕ}
use Rattle.std.specs.Prelude.{Err}
use Rattle.replies.specs.declared.Refusal.TheVariants.{BadBox}
use Rattle.replies.specs.Replies.{given, bad_box}
use Rattle.replies.specs.Room.{box_in, box_reply}
use Rattle.from_text.proofs.Texts.{box-refused, text-refused, placed-text}
use Rattle.from_text.proofs.place_text.Goals as goal

judged : (w h : ℕ) {r t : Bool} → r ≡ box_in w h → r ≡ t → given (not t) bad_box ≡ box_reply w h
judged w h e k = ap (λ (t : Bool). given (not t) bad_box) (sym k ∙ e)

pub returns-then-not-box_in : goal.returns-then-not-box_in
returns-then-not-box_in c = box-refused _ _ _ (Err BadBox) BadBox (refl, refl) (judged _ _ c.box_in.ensures c.if-not-box_in.true)

pub returns-in_err-g : goal.returns-in_err-g
returns-in_err-g c = text-refused _ _ _ _ _ c.from_residual.ensures (judged _ _ c.box_in.ensures c.if-not-box_in.false) c.in_err-g.ensures

pub returns : goal.returns
returns c = c.place.ensures ∙ placed-text _ _ _ _ (judged _ _ c.box_in.ensures c.if-not-box_in.false) c.in_ok-g.ensures
