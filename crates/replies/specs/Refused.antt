-- What a refusal of the code is as a reply number.
-- Assumes nothing.
use Rattle.std.specs.Prelude.{ℕ, Result, Ok, Err}
use Rattle.replies.specs.Replies.{done, bad_box, no_room, long_text, malformed, out_of_range, too_many_stops, bad_rows}
use Rattle.replies.specs.declared.Refusal.{Refusal}
use Rattle.replies.specs.declared.Refusal.TheVariants.{BadBox, NoRoom, LongText, Malformed, OutOfRange, TooManyStops, BadRows}

-- the number of a refusal, in document 01's table and T-08's
abbrev pub number : Refusal → ℕ
number BadBox = bad_box
number NoRoom = no_room
number LongText = long_text
number Malformed = malformed
number OutOfRange = out_of_range
number TooManyStops = too_many_stops
number BadRows = bad_rows

-- the reply of a call: "none of the rows below applies", or the row that does
abbrev pub reply_of : {A : Type 0} → Result A Refusal → ℕ
reply_of (Ok a) = done
reply_of (Err r) = number r
