-- `color::store_positions` meets its contract. The invariant: the first i positions stand from `at` on. Assumes nothing.
use mathlib.Core.Path.{◌≡◌}
use lib.ListN.{take}
use Rattle.picture.specs.Picture.{patched}
use Rattle.color.specs.Numbers.{positions_of}
use Rattle.color.proofs.store_positions.Given as goal

abbrev pub invariant-loop-i : goal.invariant-loop-i
invariant-loop-i l = l.words ≡ patched l.fn.words l.at (positions_of (take l.i l.p.stops))
