-- `line::radius` meets its contract. Assumes nothing.
use mathlib.Core.Path.{sym, ap, ◌∙◌}
use native.Mathlib.Omega.{arith}
use Prim.Native.Nat.{◌≤◌}
use lib.IntN.{nat_abs}
use Rattle.numbers.specs.Units.{length_units}
use Rattle.numbers.proofs.Signed.{small_same}
use Rattle.gradient.specs.Range.{size_in}
use Rattle.line.specs.Circle.{radius_of}
use Rattle.gradient.proofs.Laws.{radius-range}
use Rattle.line.proofs.radius.Goals as goal
use Rattle.line.proofs.radius.Goals.{In-Length}

in-radius : (c : In-Length) → nat_abs c.in-Length.t ≤ 8192000
in-radius c = (radius-range c.in-Length.t (sym (ap size_in c.in-Length.is) ∙ c.requires.2)).1

pub returns-in-Length : goal.returns-in-Length
unfolding radius_of
returns-in-Length c =
    rw c.in-Length.is
    (c.apart.ensures ∙ ap nat_abs (c.length_units.ensures ∙ ap length_units (small_same c.in-Length.t (omega (arith, in-radius c.before.before)))))
