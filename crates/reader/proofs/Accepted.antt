-- A text that is read gives a gradient that `gradient::check` accepts.
-- Assumes nothing.
use mathlib.Core.Path.{◌≡◌, refl, ap}
use mathlib.Core.Bool.{true, and-eq-true_iff}
use mathlib.Core.List.{List, ◌++◌}
use Prim.Native.Nat.{ℕ, ◌-◌, ◌≤◌}
use native.Mathlib.Omega.{arith}
use lib.Dec.{ltb}
use lib.ListN.{length, replicate, get_or-append}
use lib.Seq.{take_all, drop-append_seam}
use borrow.Author.Tests.{ltb-false, not-false}
use Rattle.replies.specs.Replies.{long_text, given}
use Rattle.replies.proofs.Laws.{or_else-zero, given-zero}
use Rattle.text.specs.Text.{Read, got, refused, is_space, past}
use Rattle.text.proofs.Laws.{Gets}
use Rattle.tokens.specs.Number.{exact}
use Rattle.gradient.specs.declared.Stop.{Stop}
use Rattle.gradient.specs.Lists.{all}
use Rattle.gradient.specs.Blank.{blank_stop, is_blank}
use Rattle.gradient.specs.Range.{shape_in, stop_in}
use Rattle.gradient.specs.Check.{Accepted, blank_past, check_of}
use Rattle.gradient.proofs.Lists.{all-at, all-copies}
use Rattle.gradient.proofs.Laws.{accepting}
use Rattle.stoplist.specs.Stops.{two_stops_of}
use Rattle.stoplist.specs.View.{places}
use Rattle.stoplist.proofs.Cut.{two-more}
use Rattle.reader.specs.Written.{Written}
use Rattle.reader.specs.Text.{gradient_of}
use Rattle.reader.specs.Reading.{grammar_reply, gradient_in, value_of, read_reply, read_of}
use Rattle.reader.proofs.Carried.{carried}

-- ---- a gradient as it is written has two stops or more
abbrev Two : List Stop → Type 0
Two ss = 2 ≤ length ss

two-read : (items : List (List ℕ)) → Gets Two (two_stops_of exact items)
two-read items = go (two_stops_of exact items) refl
  where
    go : (r : Read (List Stop)) → r ≡ two_stops_of exact items → Gets Two r
    go (got ss l) e = two-more exact items e
    go refused e = tt

-- ---- what the reply 0 says of it
fit-accepted : (w : Written) → 2 ≤ length w.stops → length w.stops ≤ 16 → shape_in w.shape ≡ true → all stop_in w.stops ≡ true
    → Accepted (value_of w)
unfolding blank_past is_blank
fit-accepted w two fit shape stops =
    let ss = w.stops in
    let kept : places ss ≡ ss ++ replicate (16 - length ss) blank_stop = ap (λ (x : List Stop). x ++ replicate (16 - length ss) blank_stop) (take_all 16 ss fit) in
    record {
      two = two;
      fit = fit;
      blank = rw (kept, drop-append_seam) (all-copies is_blank blank_stop refl (16 - length ss));
      shape = shape;
      stops = λ i h. rw (kept, get_or-append ss (replicate (16 - length ss) blank_stop) blank_stop i h) (all-at stop_in ss stops i blank_stop h);
    }

judged : (r : Read Written) → Gets (λ w. Two w.stops) r → grammar_reply r ≡ 0 → check_of (gradient_in r) ≡ 0
judged (got w l) two e =
    let k = or_else-zero _ _ e in
    let b = (and-eq-true_iff (shape_in w.shape) (all stop_in w.stops)).0 (not-false _ (given-zero _ _ k.0)) in
    accepting (value_of w) (fit-accepted w two (ltb-false 16 (length w.stops) (given-zero _ _ k.1)) b.0 b.1)
judged refused two e = absurd (omega arith)

pub read-accepted : (text : List ℕ) → (read_of text).reply ≡ 0 → check_of (read_of text).gradient ≡ 0
unfolding read_of read_reply
read-accepted text e = rw e (judged (gradient_of exact text) (carried Two exact two-read (past is_space text)) (or_else-zero (given (ltb 1024 (length text)) long_text) (grammar_reply (gradient_of exact text)) e).1)
