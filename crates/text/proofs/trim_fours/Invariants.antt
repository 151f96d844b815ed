-- `text::trim_fours` meets its contract. The invariant: what trims what is left trims the text. The measure is the length of what is left.
-- Assumes nothing.
use mathlib.Core.List.{List}
use Prim.Native.Nat.{ℕ}
use lib.ListN.{length}
use Rattle.std.specs.Str.{IsTrimAsciiEnd}
use Rattle.text.proofs.trim_fours.Given as goal

abbrev pub invariant-loop-s : goal.invariant-loop-s
invariant-loop-s l = (r : List ℕ) → IsTrimAsciiEnd l.s r → IsTrimAsciiEnd l.initial.s r

abbrev pub decreases-loop-s : goal.decreases-loop-s
decreases-loop-s l = length l.s
