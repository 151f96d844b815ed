-- What the answers of the code mean.
-- Assumes nothing.
use denote.Bor.{Bor}
use Rattle.std.specs.Prelude.{ℕ, not, List, [], ltb, Option, Some, None}
use Rattle.replies.specs.Replies.{out_of_range, too_many_stops, given, ◌or_else◌}
use Rattle.text.specs.Text.{Read, got, refused}
use Rattle.gradient.specs.declared.Gradient.{Gradient}
use Rattle.gradient.specs.Range.{shape_in}
use Rattle.reader.specs.declared.Draft.{Draft}
use Rattle.reader.specs.Written.{Written}
use Rattle.stoplist.specs.View.{list_of}
use Rattle.reader.specs.Reading.{Reading, answered}

-- what stands before the closing bracket
abbrev pub view_body : Option (Bor (List ℕ)) → Read (List ℕ)
view_body (Some body) = got body.now []
view_body None = refused

-- what the code keeps of a gradient as it is written
abbrev pub draft_of : Read Written → Option Draft
draft_of (got w l) = Some (record { shape = w.shape; repeating = w.repeating; list = list_of w.stops })
draft_of refused = None

-- the reply to a draft, and the value that it holds
unfoldable pub draft_reply : Draft → ℕ
draft_reply d =
    given (not (shape_in d.shape)) out_of_range
    or_else given d.list.wide out_of_range
    or_else given (ltb 16 d.list.count) too_many_stops

abbrev pub draft_value : Draft → Gradient
draft_value d = record { shape = d.shape; repeating = d.repeating; count = d.list.count; stops = d.list.stops }

abbrev pub concluded : Draft → Reading
concluded d = answered (draft_reply d) (draft_value d)
