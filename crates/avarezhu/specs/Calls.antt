-- What the calls of the C side answer, and what they hand out. Document 01: "Where the C side gets a chart or stops in a lent slice, 2 is also
-- given when it is shorter than the one size docs/ states with its layout".
-- Assumes nothing.
use Rattle.std.specs.Prelude.{List, ℕ}
use Rattle.replies.specs.Replies.{◌or_else◌, lowest}
use Rattle.replies.specs.Room.{size_reply, room_for, strip_reply, room_reply}
use Rattle.gradient.specs.declared.Gradient.{Gradient}
use Rattle.line.specs.Line.{rule_of}
use Rattle.line.specs.Location.{Rule}
use Rattle.reader.specs.Reading.{read_of}
use Rattle.placing.specs.Placed.{placed_in, listed}
use Rattle.color.specs.Paint.{Paint}
use Rattle.drawing.specs.Drawn.{gradient_paint, stops_paint}
use Rattle.layout.specs.Taken.{taken_reply, taken_of}
use Rattle.stopslayout.specs.Words.{placed_layout_of}
use Rattle.stopslayout.specs.Taken.{taken_stops_reply, taken_stops_of}

-- the one size of a gradient, and of placed stops
abbrev pub gradient_size : ℕ
gradient_size = 320

abbrev pub stops_size : ℕ
stops_size = 132

-- ---- the replies, with a lent slice of n bytes
-- reading a text
unfoldable pub read_call : List ℕ → ℕ → ℕ
read_call text n = size_reply gradient_size n or_else (read_of text).reply

-- placing: the box, the lent slice, and then what is placed
abbrev pub stops_room : ℕ → ℕ → ℕ → ℕ
stops_room w h n = room_for w h stops_size n

abbrev pub place_call : List ℕ → ℕ → ℕ → ℕ → ℕ
place_call text w h n = stops_room w h n or_else (read_of text).reply

abbrev pub place_gradient_call : List ℕ → ℕ → ℕ → ℕ → ℕ
place_gradient_call g w h n = stops_room w h n or_else taken_reply g

-- drawing: the box, the rows, the lent buffer, and then what is drawn; a gradient and placed stops are judged together
abbrev pub draw_gradient_rows_call : List ℕ → ℕ → ℕ → ℕ → ℕ → ℕ → ℕ
draw_gradient_rows_call g w h first end n = strip_reply w h first end n or_else taken_reply g

abbrev pub draw_gradient_call : List ℕ → ℕ → ℕ → ℕ → ℕ
draw_gradient_call g w h n = room_reply w h n or_else taken_reply g

abbrev pub draw_stops_call : List ℕ → List ℕ → ℕ → ℕ → ℕ → ℕ
draw_stops_call g p w h n = room_reply w h n or_else lowest (taken_reply g) (taken_stops_reply p)

-- ---- what is handed out, and drawn
-- the layout of a gradient's stops, placed in a box
abbrev pub placed_layout : Gradient → ℕ → ℕ → List ℕ
placed_layout g w h = placed_layout_of (listed (placed_in g w h))

-- the rule of the locations of slices that were taken, and what they color by
abbrev pub taken_rule : List ℕ → ℕ → ℕ → Rule
taken_rule g w h = rule_of (taken_of g).gradient.shape w h

abbrev pub taken_paint : List ℕ → ℕ → ℕ → Paint
taken_paint g w h = gradient_paint (taken_of g).gradient w h

abbrev pub taken_stops_paint : List ℕ → List ℕ → Paint
taken_stops_paint g p = stops_paint (taken_of g).gradient (taken_stops_of p).stops
