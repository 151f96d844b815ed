-- The answer to a text: the reply, and the gradient where it is 0.
-- Assumes nothing.
use Rattle.std.specs.Prelude.{ℕ, Bool, cond, not, ◌&&◌, List, eqb, ltb, length, Result, Ok, Err}
use Rattle.replies.specs.Replies.{done, long_text, malformed, out_of_range, too_many_stops, given, ◌or_else◌}
use Rattle.replies.specs.Refused.{number}
use Rattle.replies.specs.declared.Refusal.{Refusal}
use Rattle.text.specs.Text.{Read, got, refused}
use Rattle.tokens.specs.Number.{exact}
use Rattle.gradient.specs.declared.Gradient.{Gradient}
use Rattle.gradient.specs.Lists.{all}
use Rattle.gradient.specs.Blank.{blank_gradient}
use Rattle.gradient.specs.Range.{shape_in, stop_in}
use Rattle.stoplist.specs.View.{places}
use Rattle.reader.specs.Written.{Written}
use Rattle.reader.specs.Text.{gradient_of}

-- the reply to a text, and the gradient where it is 0, the blank one where it is not
pub record Reading : Type 0 where
  pub reply : ℕ
  pub gradient : Gradient

-- what the code answers, as that
abbrev pub reading : Result Gradient Refusal → Reading
reading (Ok g) = record { reply = done; gradient = g }
reading (Err r) = record { reply = number r; gradient = blank_gradient }

-- whether every number is in its range
abbrev pub written_in : Written → Bool
written_in w = shape_in w.shape && all stop_in w.stops

-- a number out of its range: 5; more than 16 stops: 6
abbrev pub written_reply : Written → ℕ
written_reply w = given (not (written_in w)) out_of_range or_else given (ltb 16 (length w.stops)) too_many_stops

-- the text is not in the grammar: 4
abbrev pub grammar_reply : Read Written → ℕ
grammar_reply (got w _) = written_reply w
grammar_reply refused = malformed

-- longer than 1,024 bytes: 3
unfoldable pub read_reply : List ℕ → ℕ
read_reply text = given (ltb 1024 (length text)) long_text or_else grammar_reply (gradient_of exact text)

abbrev pub value_of : Written → Gradient
value_of w = record { shape = w.shape; repeating = w.repeating; count = length w.stops; stops = places w.stops }

abbrev pub gradient_in : Read Written → Gradient
gradient_in (got w _) = value_of w
gradient_in refused = blank_gradient

abbrev pub answered : ℕ → Gradient → Reading
answered reply g = record { reply = reply; gradient = cond (eqb reply 0) g blank_gradient }

-- the reply, and the gradient that the text writes, or the blank one after a refusal
unfoldable pub read_of : List ℕ → Reading
read_of text = answered (read_reply text) (gradient_in (gradient_of exact text))
