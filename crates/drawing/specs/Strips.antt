-- Calls for the strips of one picture, one after the other. T-08: "Strips joined in order equal the whole picture, whatever the cuts."
-- Assumes nothing.
use Rattle.std.specs.Prelude.{◌≡◌, List, [], ◌∷◌, ◌++◌, ℕ, ◌-◌, ◌*◌, ◌≤◌, ◌<◌, length, take, replicate}

-- Calls for rows a up to c of a picture w pixels wide, cut anywhere: each has one row or more, begins where the one before it ended, and is lent a
-- buffer that holds its rows. `Call a b r before after` is what a call promises that was handed rows a up to b and a buffer that held `before`,
-- has answered r and left `after`. The calls have answered `replies`, and `left` is what they left of their rows, joined in order.
pub data InStrips (Call : ℕ → ℕ → ℕ → List ℕ → List ℕ → Type 0) (w : ℕ) : ℕ → ℕ → List ℕ → List ℕ → Type 0 where
  none : {a : ℕ} → InStrips Call w a a [] []
  next : {a b c r : ℕ} {before after replies left : List ℕ} → a < b → 4 * w * (b - a) ≤ length before → Call a b r before after
      → InStrips Call w b c replies left → InStrips Call w a c (r ∷ replies) (take (4 * w * (b - a)) after ++ left)

-- Each of them has answered what one call answers that is handed all their rows, and together they have left the bytes that it leaves, `size` in all.
pub record SameAs (size r : ℕ) (after replies left : List ℕ) : Type 0 where
  pub answers : replies ≡ replicate (length replies) r
  pub bytes : left ≡ take size after
