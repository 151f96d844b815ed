-- The answer to a text is the one that the grammar asks for. Assumes nothing.
use mathlib.Core.Path.{◌≡◌, refl, sym, ap, ◌∙◌}
use mathlib.Core.Bool.{Bool, true, false, not, ◌&&◌, true≢false}
use mathlib.Core.List.{List}
use mathlib.Core.Logic.{◌↔◌}
use Prim.Native.Nat.{ℕ, ◌≤◌, ◌<◌}
use lib.Dec.{ltb}
use lib.ListN.{length}
use lib.Seq.{take_all}
use borrow.Author.Tests.{ltb-true, ltb-false, lt-ltb, le-ltb}
use Rattle.replies.specs.Replies.{done, long_text, malformed, out_of_range, too_many_stops, given, ◌or_else◌}
use Rattle.text.specs.Text.{Read, got, refused}
use Rattle.tokens.specs.Number.{exact}
use Rattle.gradient.specs.Lists.{all}
use Rattle.gradient.specs.Range.{shape_in, stop_in}
use Rattle.reader.specs.Reading.{Reading}
use Rattle.reader.specs.Written.{Written}
use Rattle.reader.specs.Text.{gradient_of}
use Rattle.reader.specs.Reading as R
use Rattle.reader.specs.Reading.{grammar_reply, gradient_in, answered, read_reply, read_of}
use Rattle.grammar.specs.Text.{InGrammar}
use Rattle.grammar.specs.Answers.{InRange, value_of, Answers, too_long, not-in-grammar, not_in_range, too_many, accepted}
use Rattle.grammar.proofs.Text.{sound, complete, one-gradient, refused-not, not-refused}

-- ---- reading answers so
same-value : (g : Written) → length g.stops ≤ 16 → R.value_of g ≡ value_of g
same-value g h = rw (take_all 16 g.stops h)

pub answers : (text : List ℕ) → Answers text (read_of text)
unfolding read_of read_reply
answers text = go (ltb 1024 (length text)) refl (gradient_of exact text) refl
  where
    judged : (g : Written) → length text ≤ 1024 → InGrammar text g → (a b m : Bool) → shape_in g.shape ≡ a → all stop_in g.stops ≡ b
        → ltb 16 (length g.stops) ≡ m
        → Answers text (answered (given (not (a && b)) out_of_range or_else given m too_many_stops) (R.value_of g))
    judged g h i false b m p q r = not_in_range h i (λ z. true≢false (sym z.shape ∙ p))
    judged g h i true false m p q r = not_in_range h i (λ z. true≢false (sym z.stops ∙ q))
    judged g h i true true true p q r = too_many h i (record { shape = p; stops = q }) (ltb-true 16 _ r)
    judged g h i true true false p q r =
        let n = ltb-false 16 (length g.stops) r in rw (same-value g n) (accepted h i (record { shape = p; stops = q }) n)

    go : (t : Bool) → ltb 1024 (length text) ≡ t → (r : Read Written) → r ≡ gradient_of exact text
        → Answers text (answered (given t long_text or_else grammar_reply r) (gradient_in r))
    go true e r q = too_long (ltb-true 1024 _ e)
    go false e (got g k) q =
        judged g (ltb-false 1024 _ e) (sound text q) (shape_in g.shape) (all stop_in g.stops) (ltb 16 (length g.stops)) refl refl refl
    go false e refused q = not-in-grammar (ltb-false 1024 _ e) (refused-not text (sym q))

-- ---- and in no other way
out-of-one : (g : Written) → (InRange g → ⊥) → R.written_in g ≡ false
out-of-one g n = go (shape_in g.shape) (all stop_in g.stops) refl refl
  where
    go : (a b : Bool) → shape_in g.shape ≡ a → all stop_in g.stops ≡ b → (a && b) ≡ false
    go true true p q = absurd (n (record { shape = p; stops = q }))
    go true false p q = refl
    go false b p q = refl

pub only : {text : List ℕ} {r : Reading} → Answers text r → read_of text ≡ r
unfolding read_of read_reply
only {text} (too_long h) = rw (lt-ltb 1024 (length text) h)
only {text} (not-in-grammar h n) = rw (le-ltb 1024 (length text) h, not-refused text n)
only {text} (not_in_range {g} h i n) = rw (le-ltb 1024 (length text) h, ← complete i, out-of-one g n)
only {text} (too_many {g} h i z m) = rw (le-ltb 1024 (length text) h, ← complete i, z.shape, z.stops, lt-ltb 16 (length g.stops) m)
only {text} (accepted {g} h i z m) =
    rw (le-ltb 1024 (length text) h, ← complete i, z.shape, z.stops, le-ltb 16 (length g.stops) m, take_all 16 g.stops m)

-- A call that answers as the definition of reading does answers as the grammar asks, and the other way round.
pub read-answers : (text : List ℕ) (r : Reading) → (r ≡ read_of text) ↔ Answers text r
read-answers text r = (λ e. rw e (answers text), λ h. sym (only h))

-- ---- each reply "Given exactly when"
module _ (text : List ℕ) where
  abbrev Short : Type 0
  Short = length text ≤ 1024

  abbrev replied : ℕ
  replied = (read_of text).reply

  -- what the answer tells, by its number
  data Because : ℕ → Type 0 where
    because-long : 1024 < length text → Because long_text
    because-not : Short → ((g : Written) → InGrammar text g → ⊥) → Because malformed
    because-out : (g : Written) → Short → InGrammar text g → (InRange g → ⊥) → Because out_of_range
    because-many : (g : Written) → Short → InGrammar text g → InRange g → 16 < length g.stops → Because too_many_stops
    because-none : (g : Written) → Short → InGrammar text g → InRange g → length g.stops ≤ 16 → Because done

  because : {r : Reading} → Answers text r → Because r.reply
  because (too_long h) = because-long h
  because (not-in-grammar h n) = because-not h n
  because (not_in_range {g} h i n) = because-out g h i n
  because (too_many {g} h i z m) = because-many g h i z m
  because (accepted {g} h i z m) = because-none g h i z m

  given-as : (n : ℕ) → replied ≡ n → Because n
  given-as n e = rw e at (because (answers text))

  pub reply-3 : (replied ≡ 3) ↔ (1024 < length text)
  reply-3 = (λ e. go (given-as 3 e), λ h. ap (λ r. r.reply) (only (too_long h)))
    where
      go : Because 3 → 1024 < length text
      go (because-long h) = h

  pub reply-4 : (replied ≡ 4) ↔ (Short × ((g : Written) → InGrammar text g → ⊥))
  reply-4 = (λ e. go (given-as 4 e), λ h. ap (λ r. r.reply) (only (not-in-grammar h.0 h.1)))
    where
      go : Because 4 → Short × ((g : Written) → InGrammar text g → ⊥)
      go (because-not h n) = (h, n)

  pub reply-5 : (replied ≡ 5) ↔ (Short × (g : Written) × InGrammar text g × (InRange g → ⊥))
  reply-5 = (λ e. go (given-as 5 e), λ h. ap (λ r. r.reply) (only (not_in_range h.0 h.2 h.3)))
    where
      go : Because 5 → Short × (g : Written) × InGrammar text g × (InRange g → ⊥)
      go (because-out g h i n) = (h, g, i, n)

  pub reply-6 : (replied ≡ 6) ↔ (Short × (g : Written) × InGrammar text g × InRange g × (16 < length g.stops))
  reply-6 = (λ e. go (given-as 6 e), λ h. ap (λ r. r.reply) (only (too_many h.0 h.2 h.3 h.4)))
    where
      go : Because 6 → Short × (g : Written) × InGrammar text g × InRange g × (16 < length g.stops)
      go (because-many g h i z m) = (h, g, i, z, m)

  pub reply-0 : (replied ≡ 0) ↔ (Short × (g : Written) × InGrammar text g × InRange g × (length g.stops ≤ 16))
  reply-0 = (λ e. go (given-as 0 e), λ h. ap (λ r. r.reply) (only (accepted h.0 h.2 h.3 h.4)))
    where
      go : Because 0 → Short × (g : Written) × InGrammar text g × InRange g × (length g.stops ≤ 16)
      go (because-none g h i z m) = (h, g, i, z, m)

  -- the gradient that is handed out is the one that the text writes
  pub handed_out : (g : Written) → InGrammar text g → replied ≡ 0 → (read_of text).gradient ≡ value_of g
  handed_out g i e = go (reply-0.0 e)
    where
      go : Short × (x : Written) × InGrammar text x × InRange x × (length x.stops ≤ 16) → (read_of text).gradient ≡ value_of g
      go (h, x, j, z, m) = ap (λ r. r.gradient) (only (accepted h j z m)) ∙ ap value_of (one-gradient j i)
