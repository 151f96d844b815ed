-- Replies worked out by computation.
-- Assumes nothing.
use Rattle.std.specs.Prelude.{◌≡◌, refl, true, false}
use Rattle.replies.specs.Replies.{done, bad_box, no_room, malformed, out_of_range, bad_rows, lowest}
use Rattle.replies.specs.Room.{box_in, rows_in, strip_reply, room_reply}

-- 2,048 is taken, 2,049 and 0 are not
boxes : (box_in 2048 2048 ≡ true) × (box_in 2049 1 ≡ false) × (box_in 1 2049 ≡ false) × (box_in 0 1 ≡ false)
unfolding box_in
boxes = (refl, refl, refl, refl)

-- 4 by 1 pixels in 16 bytes and in 15, and a box that is too wide with no bytes at all
buffers : (room_reply 4 1 16 ≡ done) × (room_reply 4 1 15 ≡ no_room) × (room_reply 2049 1 0 ≡ bad_box)
unfolding strip_reply box_in rows_in
buffers = (refl, refl, refl)

-- row 2 of 4 by 3 pixels in 16 bytes and in 15; no row, and a row below the box, each with no bytes at all, and in a box that is too wide
strips : (strip_reply 4 3 2 3 16 ≡ done)
    × (strip_reply 4 3 2 3 15 ≡ no_room)
    × (strip_reply 4 3 2 2 0 ≡ bad_rows)
    × (strip_reply 4 3 2 4 0 ≡ bad_rows)
    × (strip_reply 2049 3 2 2 0 ≡ bad_box)
unfolding strip_reply box_in rows_in
strips = (refl, refl, refl, refl, refl)

-- "a text with seventeen stops and a missing bracket gets 4": the lower of two replies, where both apply and where one does
lower : (lowest out_of_range malformed ≡ malformed) × (lowest done out_of_range ≡ out_of_range) × (lowest malformed done ≡ malformed)
unfolding lowest
lower = (refl, refl, refl)
