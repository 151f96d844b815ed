-- `circle::mirror` meets its contract. The invariant: the first i pixels of the row stand from `at` on. Assumes nothing.
use mathlib.Core.Path.{◌≡◌}
use mathlib.Core.List.{List}
use Prim.Native.Nat.{ℕ, ◌+◌, ◌*◌, ◌≤◌}
use lib.ListN.{length}
use Rattle.picture.specs.Picture.{row, patched}
use Rattle.circle.specs.Circular.{Symmetric}
use Rattle.circle.proofs.mirror.Given as goal

abbrev pub invariant-loop-i : goal.invariant-loop-i
invariant-loop-i l = (px : ℕ → ℕ → List ℕ) (j : ℕ) (d : List ℕ) → Symmetric px l.w l.n j → l.initial.buf ≡ patched d l.at (row px l.n j) → l.at + 4 * l.w ≤ length d → l.buf ≡ patched d l.at (row px l.i j)
