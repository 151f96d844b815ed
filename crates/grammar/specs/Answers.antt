-- What reading a text answers. Document 01: "The lowest number that applies is given." "Reading a text alone uses 3 to 6 and hands out no chart on a
-- refusal".
-- Assumes nothing.
use Rattle.std.specs.Prelude.{◌≡◌, true, List, ◌++◌, ℕ, ◌-◌, ◌≤◌, ◌<◌, length, replicate}
use Rattle.replies.specs.Replies.{done, long_text, malformed, out_of_range, too_many_stops}
use Rattle.gradient.specs.Lists.{all}
use Rattle.gradient.specs.Range.{shape_in, stop_in}
use Rattle.gradient.specs.Blank.{blank_stop, blank_gradient}
use Rattle.gradient.specs.declared.Gradient.{Gradient}
use Rattle.reader.specs.Reading.{Reading}
use Rattle.reader.specs.Written.{Written}
use Rattle.grammar.specs.Text.{InGrammar}

-- every number is in its range
pub record InRange (g : Written) : Type 0 where
  pub shape : shape_in g.shape ≡ true
  pub stops : all stop_in g.stops ≡ true

-- a gradient of at most 16 stops as a value, "unused places blank"; and no gradient
abbrev pub value_of : Written → Gradient
value_of g =
    record {
      shape = g.shape;
      repeating = g.repeating;
      count = length g.stops;
      stops = g.stops ++ replicate (16 - length g.stops) blank_stop;
    }

abbrev pub refusal : ℕ → Reading
refusal reply = record { reply = reply; gradient = blank_gradient }

-- the answer to a text, by the rows of the table of replies from the lowest number up
pub data Answers (text : List ℕ) : Reading → Type 0 where
  -- 3: "text longer than 1,024 bytes"
  too_long : 1024 < length text → Answers text (refusal long_text)
  -- 4: "text is not in the grammar below (empty text included)"
  not-in-grammar : length text ≤ 1024 → ((g : Written) → InGrammar text g → ⊥) → Answers text (refusal malformed)
  -- 5: "a number is outside its range"
  not_in_range : {g : Written} → length text ≤ 1024 → InGrammar text g → (InRange g → ⊥) → Answers text (refusal out_of_range)
  -- 6: "more than 16 stops"
  too_many : {g : Written} → length text ≤ 1024 → InGrammar text g → InRange g → 16 < length g.stops → Answers text (refusal too_many_stops)
  -- 0: "none of the rows below applies"
  accepted : {g : Written} → length text ≤ 1024 → InGrammar text g → InRange g → length g.stops ≤ 16
      → Answers text (record { reply = done; gradient = value_of g })
