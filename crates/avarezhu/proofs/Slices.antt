-- From what is said of values to what is said of the slices that hold them.
-- Assumes nothing.
use mathlib.Core.Path.{◌≡◌, refl, sym, ap, ◌∙◌, subst}
use mathlib.Core.Bool.{false≢true}
use mathlib.Core.List.{List}
use Prim.Native.Nat.{ℕ, zero, suc, ◌<◌}
use native.Mathlib.Omega.{arith}
use lib.ListN.{length}
use Rattle.std.specs.Prelude.{Result, Ok, Err, IfOk, OnOk}
use Rattle.std.specs.Result.{IsErr, IsErrAnd, result_and}
use Rattle.replies.specs.Replies.{done, ◌or_else◌, lowest}
use Rattle.replies.specs.Refused.{number, reply_of}
use Rattle.replies.specs.declared.Refusal.{Refusal}
use Rattle.replies.specs.Room.{strip_reply, room_reply}
use Rattle.replies.specs.Handed.{Handed}
use Rattle.replies.proofs.Laws.{number-above, or_else-zero, or_else-first, lowest-zero, room-zero}
use Rattle.gradient.specs.Check.{check_of}
use Rattle.gradient.specs.declared.Gradient.{Gradient}
use Rattle.stops.specs.Blank.{no_stops}
use Rattle.stops.specs.Check.{check_placed_of}
use Rattle.placing.specs.Placed.{placed_in, listed}
use Rattle.line.specs.Line.{rule_of}
use Rattle.reader.specs.Reading.{read_of}
use Rattle.stops.specs.declared.PlacedStops.{PlacedStops}
use Rattle.placing.specs.Reply.{Placing, placing, handed_out, place_reply, place_of}
use Rattle.picture.specs.Picture.{buffer}
use Rattle.drawing.specs.Replies.{gradient_rows_reply, stops_reply}
use Rattle.drawing.specs.Drawn.{gradient_paint, stops_paint, DrawnRows, Drawn}
use Rattle.from_text.specs.Text.{place_text_reply, place_text_of}
use Rattle.layout.specs.Taken.{Taken, taken, taken_reply, taken_of}
use Rattle.layout.proofs.Exact.{taken-only}
use Rattle.stopslayout.specs.Words.{placed_layout_of}
use Rattle.stopslayout.specs.Taken.{TakenStops, taken_stops, taken_stops_reply, taken_stops_of}
use Rattle.stopslayout.proofs.Exact as stops-exact
use Rattle.avarezhu.specs.Calls.{stops_size, stops_room, place_call, place_gradient_call, draw_gradient_rows_call, draw_stops_call, taken_rule, taken_paint, taken_stops_paint}

-- ---- what is handed out in a lent slice
-- after a refusal it makes no difference which stops there would have been
same-buffer : (r : ℕ) (list : PlacedStops) (n : ℕ) → buffer r (placed_layout_of (handed_out r list)) n ≡ buffer r (placed_layout_of list) n
same-buffer zero list n = refl
same-buffer (suc r) list n = refl

pub handed-list : (p : Placing) (list : PlacedStops) {answer r : ℕ} {before after : List ℕ} → p.reply ≡ answer → p.stops ≡ handed_out p.reply list
    → Handed p.reply (placed_layout_of p.stops) r before after → Handed answer (placed_layout_of list) r before after
handed-list p list {r = r} {before = before} a e h =
    let k : p.stops ≡ handed_out r list = e ∙ ap (λ (m : ℕ). handed_out m list) (sym h.reply) in
    record { reply = h.reply ∙ a; bytes_left = h.bytes_left ∙ ap (λ (l : PlacedStops). buffer r (placed_layout_of l) (length before)) k ∙ same-buffer r list (length before) }

-- ---- the replies to slices that are handed in
pub gradient-reply : (g : List ℕ) (t : Taken) → t ≡ taken_of g → t.reply ≡ taken_reply g
unfolding taken_of
gradient-reply g t e = ap (λ (x : Taken). x.reply) e

pub list-reply : (p : List ℕ) (l : TakenStops) → l ≡ taken_stops_of p → l.reply ≡ taken_stops_reply p
unfolding taken_stops_of
list-reply p l e = ap (λ (x : TakenStops). x.reply) e

pub slice_reply : (a : Result Gradient Refusal) (g : List ℕ) → taken a ≡ taken_of g → reply_of a ≡ taken_reply g
slice_reply (Ok x) g e = gradient-reply g _ e
slice_reply (Err r) g e = gradient-reply g _ e

pub slice_gradient : (a : Result Gradient Refusal) (g : List ℕ) → taken a ≡ taken_of g → IfOk a (λ x. x ≡ (taken_of g).gradient)
slice_gradient (Ok x) g e = ap (λ (t : Taken). t.gradient) e
slice_gradient (Err r) g e = tt

pub stops_slice_reply : (a : Result PlacedStops Refusal) (p : List ℕ) → taken_stops a ≡ taken_stops_of p → reply_of a ≡ taken_stops_reply p
stops_slice_reply (Ok x) p e = list-reply p _ e
stops_slice_reply (Err r) p e = list-reply p _ e

-- a reply alone, that of a refusal as a `?` hands it on, and none where the reply is 0
pub alone : {A : Type 0} (a : Result A Refusal) {b : Result (Unit {0}) Refusal} → b ≡ result_and a (Ok tt) → reply_of b ≡ reply_of a
alone (Ok x) e = ap (λ (b : Result (Unit {0}) Refusal). reply_of b) e
alone (Err r) e = ap (λ (b : Result (Unit {0}) Refusal). reply_of b) e

pub err-number : {A : Type 0} (a : Result A Refusal) (r : Refusal) → IsErr a × IsErrAnd a (λ x. x ≡ r) → reply_of a ≡ number r
err-number (Ok x) r k = absurd (false≢true k.0)
err-number (Err x) r k = ap number k.1

pub no-err : {A : Type 0} (a : Result A Refusal) (r : Refusal) → a ≡ Err r → reply_of a ≡ 0 → ⊥
no-err {A = A} a r e z = let k = number-above r in let n : number r ≡ 0 = sym (ap (λ (b : Result A Refusal). reply_of b) e) ∙ z in omega (arith, n)

-- ---- placing: what is judged first refuses, or what is placed
module _ (a : Result PlacedStops Refusal) (r : Refusal) (k : IsErr a × IsErrAnd a (λ x. x ≡ r)) where
  err-is : a ≡ Err r
  err-is = go a k
    where
      go : (a : Result PlacedStops Refusal) → IsErr a × IsErrAnd a (λ x. x ≡ r) → a ≡ Err r
      go (Ok p) k = absurd (false≢true k.0)
      go (Err x) k = ap (λ (y : Refusal). Err y) k.1

  pub err-room : (P : Type 0) → OnOk a P
  err-room P = rw err-is tt

  pub err-reply : {n : ℕ} → number r ≡ n → (placing a).reply ≡ n
  err-reply e = rw err-is e

  pub err-stops : (list : PlacedStops) → (placing a).stops ≡ handed_out (placing a).reply list
  err-stops list = rw err-is (none (number r) (number-above r))
    where
      none : (n : ℕ) → 0 < n → no_stops ≡ handed_out n list
      none zero h = absurd (omega arith)
      none (suc n) h = refl

pub ok-room : (P : Type 0) (a : Result PlacedStops Refusal) → P → OnOk a P
ok-room P (Ok p) x = x
ok-room P (Err r) x = tt

pub refused-first : (r : Refusal) {n : ℕ} (b : ℕ) → number r ≡ n → number r ≡ n or_else b
refused-first r b e = or_else-first b e (λ z. let p = number-above r in omega (arith, z))

-- the stops of a text
module _ (text : List ℕ) (w h n : ℕ) (room : done ≡ stops_room w h n) {p : Placing} (e : p ≡ place_text_of text w h) where
  pub text-reply : p.reply ≡ place_call text w h n
  unfolding place_text_of place_text_reply
  text-reply = rw (e, ← room, (room-zero w h stops_size n (sym room)).box)

  pub text-stops : p.stops ≡ handed_out p.reply (listed (placed_in (read_of text).gradient w h))
  unfolding place_text_of
  text-stops = rw e

-- the stops of a gradient that was taken
module _ (g : List ℕ) {x : Gradient} (t : taken (Ok x) ≡ taken_of g) where
  zero-reply : (taken_of g).reply ≡ 0
  zero-reply = ap (λ (y : Taken). y.reply) (sym t)

  is-gradient : x ≡ (taken_of g).gradient
  is-gradient = ap (λ (y : Taken). y.gradient) t

  module _ (w h n : ℕ) (room : done ≡ stops_room w h n) {p : Placing} (e : p ≡ place_of x w h) where
    pub gradient-placed-reply : p.reply ≡ place_gradient_call g w h n
    unfolding place_of place_reply
    gradient-placed-reply =
        rw (e, is-gradient, ← room, (room-zero w h stops_size n (sym room)).box, (taken-only g zero-reply).1) (slice_reply (Ok x) g t)

    pub gradient-placed-stops : p.stops ≡ handed_out p.reply (listed (placed_in (taken_of g).gradient w h))
    unfolding place_of
    gradient-placed-stops = rw (e, is-gradient)

-- ---- drawing
-- a strip of a gradient that was taken
module _ (g : List ℕ) {x : Gradient} (is : x ≡ (taken_of g).gradient) where
  accepted : taken_reply g ≡ 0 → check_of (taken_of g).gradient ≡ 0
  unfolding taken_of
  accepted z = (taken-only g z).1

  pub drawn-taken : (w h a b r : ℕ) (before after : List ℕ) → done ≡ draw_gradient_rows_call g w h a b (length before)
      → DrawnRows (gradient_rows_reply x w h a b (length before)) (rule_of x.shape w h) (gradient_paint x w h) w a b r before after
      → DrawnRows (draw_gradient_rows_call g w h a b (length before)) (taken_rule g w h) (taken_paint g w h) w a b r before after
  drawn-taken w h a b r before after z d =
      let o : (strip_reply w h a b (length before) ≡ 0) × (taken_reply g ≡ 0) = or_else-zero _ _ (sym z) in
      let k = subst (λ (y : Gradient). DrawnRows (gradient_rows_reply y w h a b (length before)) (rule_of y.shape w h) (gradient_paint y w h) w a b r before after) is d in
      let same : gradient_rows_reply (taken_of g).gradient w h a b (length before) ≡ draw_gradient_rows_call g w h a b (length before) = rw (o.0, accepted o.1, o.1) in
      record { reply = k.reply ∙ same; bytes_left = k.bytes_left; pixels = k.pixels }

  -- a gradient and placed stops that were taken together
  module _ (p : List ℕ) {l : PlacedStops} (is' : l ≡ (taken_stops_of p).stops) where
    accepted-stops : taken_stops_reply p ≡ 0 → check_placed_of (taken_stops_of p).stops ≡ 0
    unfolding taken_stops_of
    accepted-stops z = (stops-exact.taken-only p z).1

    pub drawn-stops : (w h r : ℕ) (before after : List ℕ) → done ≡ draw_stops_call g p w h (length before)
        → Drawn (stops_reply x l w h (length before)) (rule_of x.shape w h) (stops_paint x l) w h r before after
        → Drawn (draw_stops_call g p w h (length before)) (taken_rule g w h) (taken_stops_paint g p) w h r before after
    drawn-stops w h r before after z d =
        let o : (room_reply w h (length before) ≡ 0) × (lowest (taken_reply g) (taken_stops_reply p) ≡ 0) = or_else-zero _ _ (sym z) in
        let q : (taken_reply g ≡ 0) × (taken_stops_reply p ≡ 0) = lowest-zero _ _ o.1 in
        let a = subst (λ (y : Gradient). Drawn (stops_reply y l w h (length before)) (rule_of y.shape w h) (stops_paint y l) w h r before after) is d in
        let k = subst (λ (y : PlacedStops). Drawn (stops_reply (taken_of g).gradient y w h (length before)) (taken_rule g w h) (stops_paint (taken_of g).gradient y) w h r before after) is' a in
        let same : stops_reply (taken_of g).gradient (taken_stops_of p).stops w h (length before) ≡ draw_stops_call g p w h (length before) =
        rw (o.0, accepted q.0, accepted-stops q.1, q.0, q.1) in
        record { reply = k.reply ∙ same; bytes_left = k.bytes_left; pixels = k.pixels }
