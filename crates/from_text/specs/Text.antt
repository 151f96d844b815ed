-- The replies and the stops of a text, and what it colors by, in a box of w by h pixels: first the box, the rows and the buffer are judged, then the text.
-- Assumes nothing.
use Rattle.std.specs.Prelude.{List, ℕ}
use Rattle.replies.specs.Replies.{◌or_else◌}
use Rattle.replies.specs.Room.{box_reply, strip_reply, room_reply}
use Rattle.line.specs.Line.{rule_of}
use Rattle.line.specs.Location.{Rule}
use Rattle.reader.specs.Reading.{read_of}
use Rattle.placing.specs.Placed.{placed_in, listed}
use Rattle.placing.specs.Reply.{Placing, handed_out}
use Rattle.color.specs.Paint.{Paint}
use Rattle.drawing.specs.Drawn.{gradient_paint}

-- placing
unfoldable pub place_text_reply : List ℕ → ℕ → ℕ → ℕ
place_text_reply text w h = box_reply w h or_else (read_of text).reply

-- the stops where the reply is 0, else none
unfoldable pub place_text_of : List ℕ → ℕ → ℕ → Placing
place_text_of text w h = record {
  reply = place_text_reply text w h;
  stops = handed_out (place_text_reply text w h) (listed (placed_in (read_of text).gradient w h));
}

-- drawing rows a up to b, and all of them
abbrev pub draw_rows_reply : List ℕ → ℕ → ℕ → ℕ → ℕ → ℕ → ℕ
draw_rows_reply text w h a b n = strip_reply w h a b n or_else (read_of text).reply

abbrev pub draw_text_reply : List ℕ → ℕ → ℕ → ℕ → ℕ
draw_text_reply text w h n = room_reply w h n or_else (read_of text).reply

-- the rule of a text's locations, and what it colors by
abbrev pub text_rule : List ℕ → ℕ → ℕ → Rule
text_rule text w h = rule_of (read_of text).gradient.shape w h

abbrev pub text_paint : List ℕ → ℕ → ℕ → Paint
text_paint text w h = gradient_paint (read_of text).gradient w h
