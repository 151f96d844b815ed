-- `color::store_values` meets its contract. The invariant: the values of the first i stops stand from `at` on. Assumes nothing.
use mathlib.Core.Path.{◌≡◌}
use lib.ListN.{take}
use Rattle.picture.specs.Picture.{patched}
use Rattle.color.specs.Numbers.{values_of}
use Rattle.color.proofs.store_values.Given as goal

abbrev pub invariant-loop-i : goal.invariant-loop-i
invariant-loop-i l = l.words ≡ patched l.fn.words l.at (values_of (take l.i l.p.stops))
