-- What a call leaves in a slice that it is lent for its answer. Document 01: "it is all zeros after a refusal and zero past the answer on 0."
-- Assumes nothing.
use Rattle.std.specs.Prelude.{◌≡◌, List, ℕ, length}
use Rattle.picture.specs.Picture.{buffer}

-- A call whose answer should be `answer` and which should hand out `layout`, in a slice that held `before`, has answered r and left `after`.
pub record Handed (answer : ℕ) (layout : List ℕ) (r : ℕ) (before after : List ℕ) : Type 0 where
  pub reply : r ≡ answer
  pub bytes_left : after ≡ buffer r layout (length before)
