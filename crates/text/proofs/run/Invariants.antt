-- `text::run` meets its contract. The invariant: the fours so far are all of the class. Assumes nothing.
use Rattle.std.proofs.Common.{◌≡◌, ◌+◌, ◌*◌, ℕ, Bool, drop}
use Rattle.std.specs.List.{prefix_len}
use Rattle.text.specs.View.{Tests}
use Rattle.text.proofs.run.Given as goal

abbrev pub invariant-loop-k : goal.invariant-loop-k
invariant-loop-k g l = (p : ℕ → Bool) → Tests g.P.Fn l.class p → 4 * l.k + prefix_len p (drop (4 * l.k) l.s) ≡ prefix_len p l.s
