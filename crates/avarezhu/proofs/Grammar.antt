-- What `avarezhu_read` promises, read from the grammar: the reply and every byte of the lent slice by whether the text is in the grammar and by the
-- gradient that it writes.
-- Assumes nothing.
use mathlib.Core.Path.{◌≡◌, refl}
use mathlib.Core.Bool.{Bool, true, false}
use mathlib.Core.List.{List}
use Prim.Native.Nat.{ℕ, zero, suc, ◌≤◌, ◌<◌}
use native.Mathlib.Omega.{arith}
use lib.Dec.{ltb}
use lib.ListN.{length, replicate}
use borrow.Author.Tests.{ltb-true, ltb-false}
use Rattle.picture.specs.Picture.{padded, buffer}
use Rattle.replies.specs.Replies.{done, no_room, given, ◌or_else◌}
use Rattle.replies.specs.Handed.{Handed}
use Rattle.gradient.specs.declared.Gradient.{Gradient}
use Rattle.reader.specs.Reading.{Reading}
use Rattle.reader.specs.Reading.{read_of}
use Rattle.grammar.specs.Answers.{Answers}
use Rattle.grammar.proofs.Answers.{answers}
use Rattle.layout.specs.Words.{layout_of}
use Rattle.avarezhu.specs.Calls.{gradient_size, read_call}

-- the reply to a text, and what is left in a slice that held `before`
pub data ReadBy (text before : List ℕ) : ℕ → List ℕ → Type 0 where
  -- 2, when the slice is "shorter than the one size docs/ states with its layout"
  without_room : length before < gradient_size → ReadBy text before no_room (replicate (length before) 0)
  -- any other refusal: "it is all zeros after a refusal"
  refused : {r : Reading} → gradient_size ≤ length before → Answers text r → (r.reply ≡ done → ⊥)
      → ReadBy text before r.reply (replicate (length before) 0)
  -- 0: the layout of the gradient "and zero past the answer"
  handed : {g : Gradient} → gradient_size ≤ length before → Answers text (record { reply = done; gradient = g })
      → ReadBy text before done (padded (length before) (layout_of g))

pub read_by : (text before after : List ℕ) (r : ℕ) → Handed (read_call text (length before)) (layout_of (read_of text).gradient) r before after
    → ReadBy text before r after
unfolding read_call
read_by text before after r h = rw (h.bytes_left, h.reply) (go (ltb (length before) gradient_size) refl (read_of text) (answers text))
  where
    n : ℕ
    n = length before

    answered : (m : ℕ) (g : Gradient) → gradient_size ≤ n → Answers text (record { reply = m; gradient = g })
        → ReadBy text before m (buffer m (layout_of g) n)
    answered zero g s a = handed s a
    answered (suc m) g s a = refused {r = record { reply = suc m; gradient = g }} s a (λ e. omega arith)

    go : (t : Bool) → ltb n gradient_size ≡ t → (x : Reading) → Answers text x
        → ReadBy text before (given t no_room or_else x.reply) (buffer (given t no_room or_else x.reply) (layout_of x.gradient) n)
    go true e x a = without_room (ltb-true _ _ e)
    go false e x a = answered x.reply x.gradient (ltb-false _ _ e) a
