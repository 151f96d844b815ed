-- Strips that calls leave, joined in order, are what one call for all their rows leaves, whatever the cuts.
-- Assumes nothing.
use mathlib.Core.Path.{◌≡◌, refl, sym, ap, ap₂, ◌∙◌}
use mathlib.Core.List.{List, [], ◌∷◌, ◌++◌}
use Prim.Native.Nat.{ℕ, zero, suc, ◌+◌, ◌-◌, ◌*◌, ◌≤◌, ◌<◌}
use native.Mathlib.Nat.{le_refl, le_trans, sub_self, mul-zero, mul-add}
use native.Mathlib.Omega.{arith}
use lib.ListN.{length, take, replicate, length-replicate, replicate-append-replicate}
use lib.Seq.{take_at}
use Rattle.replies.specs.Replies.{◌or_else◌}
use Rattle.replies.specs.Room.{box_reply, strip_reply}
use Rattle.replies.proofs.Laws.{strip-boxed}
use Rattle.line.specs.Location.{Rule}
use Rattle.color.specs.Paint.{Paint}
use Rattle.picture.specs.Picture.{strip, buffer}
use Rattle.picture.proofs.Rows.{strip-none, strip-join, strip-length}
use Rattle.rows.specs.Pixel.{pixel_of}
use Rattle.drawing.specs.Drawn.{DrawnRows}
use Rattle.drawing.specs.Strips.{InStrips, none, next, SameAs}

-- what a call promises for rows a up to b of w by h pixels, where `judged` is the reply to what it is to draw
abbrev pub RowsCall : ℕ → Rule → Paint → ℕ → ℕ → ℕ → ℕ → ℕ → List ℕ → List ℕ → Type 0
RowsCall judged rule paint w h a b r before after = DrawnRows (strip_reply w h a b (length before) or_else judged) rule paint w a b r before after

-- cuts rise
cuts-rise : {Call : ℕ → ℕ → ℕ → List ℕ → List ℕ → Type 0} {w a c : ℕ} {replies left : List ℕ} → InStrips Call w a c replies left → a ≤ c
cuts-rise {a = a} none = le_refl a
cuts-rise (next l m d s) = let k = cuts-rise s in omega arith

-- the first n of m zeros
zeros-taken : (n m : ℕ) → n ≤ m → take {A = ℕ} n (replicate m 0) ≡ replicate n 0
zeros-taken n m h =
    let e : n + (m - n) ≡ m = omega arith in
    let k : replicate {A = ℕ} n 0 ++ replicate (m - n) 0 ≡ replicate m 0 = rw e at (replicate-append-replicate {A = ℕ} n (m - n) 0) in
    rw (← k) (take_at (replicate n 0) (replicate (m - n) 0) n (length-replicate n 0))

module _ (judged : ℕ) (rule : Rule) (paint : Paint) (w h : ℕ) where
  -- every strip's reply
  abbrev answer : ℕ
  answer = box_reply w h or_else judged

  -- what a call that answers r leaves of rows a up to b
  abbrev share : ℕ → ℕ → ℕ → List ℕ
  share zero a b = strip (pixel_of rule paint) w a b
  share (suc r) a b = replicate (4 * w * (b - a)) 0

  share-none : (r a : ℕ) → share r a a ≡ []
  share-none zero a = strip-none (pixel_of rule paint) w a
  share-none (suc r) a = rw (sub_self, mul-zero)

  share-join : (r a b c : ℕ) → a ≤ b → b ≤ c → share r a b ++ share r b c ≡ share r a c
  share-join zero a b c h k = strip-join (pixel_of rule paint) w a b c h k
  share-join (suc r) a b c h k =
      let e : c - a ≡ (b - a) + (c - b) = omega arith in
      replicate-append-replicate (4 * w * (b - a)) (4 * w * (c - b)) 0 ∙ ap (λ (n : ℕ). replicate n 0) (sym (ap (λ (n : ℕ). 4 * w * n) e ∙ mul-add (4 * w) (b - a) (c - b)))

  share-taken : (r a b n : ℕ) → 4 * w * (b - a) ≤ n → take (4 * w * (b - a)) (buffer r (strip (pixel_of rule paint) w a b) n) ≡ share r a b
  share-taken zero a b n m = take_at (strip (pixel_of rule paint) w a b) _ (4 * w * (b - a)) (strip-length (pixel_of rule paint) (λ i j. refl) w a b)
  share-taken (suc r) a b n m = zeros-taken (4 * w * (b - a)) n m

  module _ {a b r : ℕ} {before after : List ℕ} (some : a < b) (within : b ≤ h) (enough : 4 * w * (b - a) ≤ length before)
      (d : RowsCall judged rule paint w h a b r before after) where
    reply-is : r ≡ answer
    reply-is = d.reply ∙ ap (λ (n : ℕ). n or_else judged) (strip-boxed w h a b (length before) some within enough)

    bytes-are : take (4 * w * (b - a)) after ≡ share answer a b
    bytes-are =
        ap (take (4 * w * (b - a))) d.bytes_left ∙ share-taken r a b (length before) enough ∙ ap (λ (n : ℕ). share n a b) reply-is

  -- all strips from row a on
  module _ where
    all-answers : {a c : ℕ} {replies left : List ℕ} → InStrips (RowsCall judged rule paint w h) w a c replies left → c ≤ h
        → replies ≡ replicate (length replies) answer
    all-answers none k = refl
    all-answers (next l m d s) k = ap₂ ◌∷◌ (reply-is l (le_trans (cuts-rise s) k) m d) (all-answers s k)

    all-bytes : {a c : ℕ} {replies left : List ℕ} → InStrips (RowsCall judged rule paint w h) w a c replies left → c ≤ h
        → left ≡ share answer a c
    all-bytes {a = a} none k = sym (share-none answer a)
    all-bytes {a = a} {c = c} (next {b = b} l m d s) k =
        let n = cuts-rise s in
        ap₂ ◌++◌ (bytes-are l (le_trans n k) m d) (all-bytes s k) ∙ share-join answer a b c (omega arith) n

  -- one call for rows a up to c, and calls for the same rows in strips
  pub strips-joined : {a c r : ℕ} {before after replies left : List ℕ} → InStrips (RowsCall judged rule paint w h) w a c replies left → c ≤ h
      → 4 * w * (c - a) ≤ length before → RowsCall judged rule paint w h a c r before after → SameAs (4 * w * (c - a)) r after replies left
  strips-joined {a = a} {after = after} none k m d =
      record { answers = refl; bytes = ap (λ (n : ℕ). take n after) (sym (ap (λ (n : ℕ). 4 * w * n) (sub_self a) ∙ mul-zero (4 * w))) }
  strips-joined {a = a} {c = c} {replies = replies} (next l e o s) k m d =
      let n = cuts-rise s in
      let lt : a < c = omega arith in
      record {
        answers = all-answers (next l e o s) k ∙ ap (replicate (length replies)) (sym (reply-is lt k m d));
        bytes = all-bytes (next l e o s) k ∙ sym (bytes-are lt k m d);
      }
