-- Laws for the crates above: the order of replies, what the reply 0 says of a box, of rows and of a lent slice, and what is handed out in one.
-- Assumes nothing.
use mathlib.Core.Path.{◌≡◌, refl, sym, ap, ◌∙◌}
use mathlib.Core.Bool.{Bool, true, false, not, false≢true, and-eq-true_iff}
use mathlib.Core.List.{List}
use Prim.Native.Nat.{ℕ, zero, suc, ◌-◌, ◌*◌, ◌≤◌, ◌<◌}
use native.Mathlib.Nat.{le_refl, sub-zero}
use native.Mathlib.Omega.{arith}
use lib.ListN.{length, replicate}
use borrow.Author.Tests.{ltb-true, ltb-false, lt-ltb, le-ltb, leb-true, le-leb, not-false}
use Rattle.picture.specs.Picture.{padded}
use Rattle.picture.proofs.Patches.{refused}
use Rattle.replies.specs.Replies.{done, bad_box, given, ◌or_else◌, lowest}
use Rattle.replies.specs.Room.{box_in, box_reply, rows_in, rows_reply, size_reply, room_for, strip_reply, room_reply}
use Rattle.replies.specs.Handed.{Handed}
use Rattle.replies.specs.Refused.{number, reply_of}
use Rattle.replies.specs.declared.Refusal.{Refusal}
use Rattle.replies.specs.declared.Refusal.TheVariants.{BadBox, NoRoom, LongText, Malformed, OutOfRange, TooManyStops, BadRows}
use Rattle.std.specs.Prelude.{Result, Ok, Err}
use Rattle.std.specs.Result.{is_ok, IsErr, IsErrAnd}

-- ---- no reply, the first one, the next one
pub or_else-zero : (a b : ℕ) → a or_else b ≡ 0 → (a ≡ 0) × (b ≡ 0)
or_else-zero zero b e = (refl, e)
or_else-zero (suc a) b e = absurd (omega arith)

pub or_else-first : {a r : ℕ} (b : ℕ) → r ≡ a → (r ≡ 0 → ⊥) → r ≡ a or_else b
or_else-first {a = zero} b e n = absurd (n e)
or_else-first {a = suc a} b e n = e

pub or_else-next : {a b r : ℕ} → a ≡ 0 → r ≡ b → r ≡ a or_else b
or_else-next e k = rw e k

pub or_else-none : (a : ℕ) → a or_else 0 ≡ a
or_else-none zero = refl
or_else-none (suc a) = refl

-- the same for a row of a table
pub given-zero : (t : Bool) (n : ℕ) → given t (suc n) ≡ 0 → t ≡ false
given-zero true n e = absurd (omega arith)
given-zero false n e = refl

pub given-first : {t : Bool} {n : ℕ} (b : ℕ) → t ≡ true → suc n ≡ given t (suc n) or_else b
given-first b e = rw e

pub given-next : {t : Bool} (n : ℕ) {b r : ℕ} → t ≡ false → r ≡ b → r ≡ given t n or_else b
given-next n e k = rw e k

-- ---- a refusal has a number above 0
pub number-above : (e : Refusal) → 0 < number e
number-above BadBox = omega arith
number-above NoRoom = omega arith
number-above LongText = omega arith
number-above Malformed = omega arith
number-above OutOfRange = omega arith
number-above TooManyStops = omega arith
number-above BadRows = omega arith

pub ok-done : {A : Type 0} (r : Result A Refusal) → true ≡ is_ok r → reply_of r ≡ 0
ok-done (Ok a) e = refl
ok-done (Err x) e = absurd (false≢true (sym e))

pub refused-above : {A : Type 0} (r : Result A Refusal) → false ≡ is_ok r → 0 < reply_of r
refused-above (Ok a) e = absurd (false≢true e)
refused-above (Err x) e = number-above x

-- what is judged first refuses, or does not
pub refused_first : {A : Type 0} (r : Result A Refusal) (e : Refusal) {n : ℕ} (b : ℕ) → IsErr r × IsErrAnd r (λ x. x ≡ e) → number e ≡ n → reply_of r ≡ n or_else b
refused_first r e {n} b k h = or_else-first b (is-number r e k ∙ h) (λ z. let p = number-above e in omega (arith, is-number r e k, z))
  where
    is-number : {A : Type 0} (r : Result A Refusal) (e : Refusal) → IsErr r × IsErrAnd r (λ x. x ≡ e) → reply_of r ≡ number e
    is-number (Ok a) e k = absurd (false≢true k.0)
    is-number (Err x) e k = ap number k.1

pub done_next : {n b r : ℕ} → done ≡ n → r ≡ b → r ≡ n or_else b
done_next e k = rw (← e) k

-- ---- the lower of two replies
pub lowest-none : (a b : ℕ) → a ≡ 0 → b ≡ lowest a b
unfolding lowest
lowest-none a b e = rw e

pub lowest-first : (a b : ℕ) → (a ≡ 0 → ⊥) → b ≡ 0 → a ≡ lowest a b
unfolding lowest
lowest-first zero b n e = absurd (n refl)
lowest-first (suc a) b n e = rw e

pub lowest-left : (a b : ℕ) → (a ≡ 0 → ⊥) → (b ≡ 0 → ⊥) → a ≤ b → a ≡ lowest a b
unfolding lowest
lowest-left zero b n m h = absurd (n refl)
lowest-left (suc a) zero n m h = absurd (m refl)
lowest-left (suc a) (suc b) n m h = omega arith

pub lowest-right : (a b : ℕ) → (a ≡ 0 → ⊥) → (b ≡ 0 → ⊥) → (a ≤ b → ⊥) → b ≡ lowest a b
unfolding lowest
lowest-right zero b n m h = absurd (n refl)
lowest-right (suc a) zero n m h = absurd (m refl)
lowest-right (suc a) (suc b) n m h = omega arith

pub lowest-other : (a b : ℕ) → (lowest a b ≡ a → ⊥) → b ≡ lowest a b
unfolding lowest
lowest-other zero b n = refl
lowest-other (suc a) zero n = absurd (n refl)
lowest-other (suc a) (suc b) n = omega (arith, n)

pub lowest-zero : (a b : ℕ) → lowest a b ≡ 0 → (a ≡ 0) × (b ≡ 0)
unfolding lowest
lowest-zero zero b e = (refl, e)
lowest-zero (suc a) zero e = absurd (omega arith)
lowest-zero (suc a) (suc b) e = absurd (omega arith)

-- ---- a box that is allowed, and a slice that is long enough
pub box-sides : (w h : ℕ) → box_in w h ≡ true → (1 ≤ w) × (w ≤ 2048) × (1 ≤ h) × (h ≤ 2048)
unfolding box_in
box-sides w h e =
    let a = (and-eq-true_iff _ _).0 e in
    let b = (and-eq-true_iff _ _).0 a.1 in
    let d = (and-eq-true_iff _ _).0 b.1 in
    (leb-true 1 w a.0, leb-true w 2048 b.0, leb-true 1 h d.0, leb-true h 2048 d.1)

pub box-zero : (w h : ℕ) → box_reply w h ≡ 0 → box_in w h ≡ true
box-zero w h e = not-false _ (given-zero _ _ e)

pub record Room (w h size n : ℕ) : Type 0 where
  pub box : box_in w h ≡ true
  pub enough : size ≤ n

pub room-zero : (w h size n : ℕ) → room_for w h size n ≡ 0 → Room w h size n
unfolding room_for
room-zero w h size n e =
    let k = or_else-zero _ _ e in
    record { box = box-zero w h k.0; enough = ltb-false n size (given-zero _ _ k.1) }

-- ---- the rows of a strip
pub rows-within : (h first end : ℕ) → rows_in h first end ≡ true → (first < end) × (end ≤ h)
unfolding rows_in
rows-within h first end e =
    let a = (and-eq-true_iff _ _).0 e in
    (ltb-true first end a.0, leb-true end h a.1)

within-rows : (h first end : ℕ) → first < end → end ≤ h → rows_in h first end ≡ true
unfolding rows_in
within-rows h first end l k = rw (lt-ltb first end l, le-leb end h k)

pub record StripRoom (w h first end n : ℕ) : Type 0 where
  pub box : box_in w h ≡ true
  pub some : first < end
  pub within : end ≤ h
  pub enough : 4 * w * (end - first) ≤ n

pub strip-zero : (w h first end n : ℕ) → strip_reply w h first end n ≡ 0 → StripRoom w h first end n
unfolding strip_reply
strip-zero w h first end n e =
    let k = or_else-zero _ _ e in
    let l = or_else-zero _ _ k.1 in
    let s = rows-within h first end (not-false _ (given-zero _ _ l.0)) in
    record { box = box-zero w h k.0; some = s.0; within = s.1; enough = ltb-false n (4 * w * (end - first)) (given-zero _ _ l.1) }

-- rows within the box, and a buffer that holds them: only the box is left to judge
pub strip-boxed : (w h first end n : ℕ) → first < end → end ≤ h → 4 * w * (end - first) ≤ n → strip_reply w h first end n ≡ box_reply w h
unfolding strip_reply
strip-boxed w h first end n l k m = rw (within-rows h first end l k, le-ltb n (4 * w * (end - first)) m) (or_else-none (box_reply w h))

-- the strip of all rows is judged as the box and 4·W·H bytes are: its rows are never wrong where its box is not
pub whole_room : (w h n : ℕ) → room_reply w h n ≡ room_for w h (4 * w * h) n
unfolding strip_reply room_for
whole_room w h n = go (box_in w h) refl
  where
    go : (t : Bool) → box_in w h ≡ t → given (not t) bad_box or_else rows_reply h 0 h or_else size_reply (4 * w * (h - 0)) n ≡ given (not t) bad_box or_else size_reply (4 * w * h) n
    go true e = let s = box-sides w h e in rw (within-rows h 0 h s.2 (le_refl h), sub-zero)
    go false e = refl

-- ---- what is handed out in a lent slice
pub handed : {answer : ℕ} {layout before after : List ℕ} → answer ≡ 0 → after ≡ padded (length before) layout → Handed answer layout 0 before after
handed a e = record { reply = sym a; bytes_left = e }

pub not-handed : {answer : ℕ} {layout before after : List ℕ} (r : ℕ) → r ≡ answer → (r ≡ 0 → ⊥) → after ≡ replicate (length before) 0
    → Handed answer layout r before after
not-handed {layout = layout} {before = before} r a n e = record { reply = a; bytes_left = e ∙ refused r layout (length before) n }
