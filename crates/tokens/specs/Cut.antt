-- How far the code counts: the contracts' own terms. What the cut changes, nothing that a range can tell, is proved in proofs/Cut.antt.
-- Assumes nothing.
use Rattle.std.specs.Prelude.{ℕ, suc, min, ℤ, pos, negsuc, neg_ℤ}
use Rattle.tokens.specs.declared.Number.{Number}
use Rattle.tokens.specs.Number.{number}

-- a number is cut off at a million units either way; no range reaches so far
abbrev pub most : ℕ
most = 1000000000

unfoldable pub cut : ℤ → ℤ
cut (pos n) = pos (min n most)
cut (negsuc n) = neg_ℤ (pos (min (suc n) most))

abbrev pub cut_number : Number → Number
cut_number n = number (cut n.value) n.unit

-- a magnitude cut off
abbrev pub up_to : ℕ → ℕ
up_to n = min n most
