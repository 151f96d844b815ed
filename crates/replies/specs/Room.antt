-- The replies to a box of w by h pixels, to rows `first` up to, not including, `end` of it, and to a lent slice of n bytes: the first rows of
-- document 01's table, and of document 02 T-08's.
-- Assumes nothing.
use Rattle.std.specs.Prelude.{Bool, not, ◌&&◌, ℕ, ◌-◌, ◌*◌, leb, ltb}
use Rattle.replies.specs.Replies.{bad_box, no_room, bad_rows, given, ◌or_else◌}

-- whether width and height are from 1 to 2,048
unfoldable pub box_in : ℕ → ℕ → Bool
box_in w h = leb 1 w && (leb w 2048 && (leb 1 h && leb h 2048))

-- "width or height outside 1 to 2,048"
abbrev pub box_reply : ℕ → ℕ → ℕ
box_reply w h = given (not (box_in w h)) bad_box

-- whether `first` is below `end`, and `end` not above the height
unfoldable pub rows_in : ℕ → ℕ → ℕ → Bool
rows_in h first end = ltb first end && leb end h

-- "8 when a is not below b or b is above the height"
abbrev pub rows_reply : ℕ → ℕ → ℕ → ℕ
rows_reply h first end = given (not (rows_in h first end)) bad_rows

-- the slice is shorter than `size`, which the answer has
abbrev pub size_reply : ℕ → ℕ → ℕ
size_reply size n = given (ltb n size) no_room

-- the box, then the slice
unfoldable pub room_for : ℕ → ℕ → ℕ → ℕ → ℕ
room_for w h size n = box_reply w h or_else size_reply size n

-- the same for a strip: the box, then its rows, "and buffer size (2) is then judged on the strip"
unfoldable pub strip_reply : ℕ → ℕ → ℕ → ℕ → ℕ → ℕ
strip_reply w h first end n = box_reply w h or_else rows_reply h first end or_else size_reply (4 * w * (end - first)) n

-- the same for a picture, which is the strip of all its rows: "buffer shorter than 4·W·H bytes"
abbrev pub room_reply : ℕ → ℕ → ℕ → ℕ
room_reply w h n = strip_reply w h 0 h n
