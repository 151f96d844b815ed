-- `tokens::read_magnitude` meets its contract. Assumes nothing.
use mathlib.Core.Path.{sym, ◌∙◌}
use native.Mathlib.Omega.{arith}
use Rattle.tokens.proofs.Magnitudes.{fraction-small, point, point-refused, no-digits, whole}
use Rattle.tokens.proofs.read_magnitude.Goals as goal

pub returns-in_err-fraction : goal.returns-in_err-fraction
returns-in_err-fraction c = rw c.from_residual.ensures (point-refused c.digits.ensures c.value_of-units.ensures c.in-Some.ensures c.in_err-fraction.ensures)

pub overflow_add-units : goal.overflow_add-units
overflow_add-units c = omega (arith, c.value_of-units.ensures, fraction-small _ c.in_ok-fraction.ensures)

pub returns-in-Some : goal.returns-in-Some
returns-in-Some c = point c.digits.ensures c.value_of-units.ensures c.in-Some.ensures c.in_ok-fraction.ensures c.min.ensures

pub returns-then-is_empty : goal.returns-then-is_empty
returns-then-is_empty c = no-digits c.digits.ensures c.value_of-units.ensures c.in_default.ensures (sym c.is_empty.ensures ∙ c.if-is_empty.true)

pub returns-else-is_empty : goal.returns-else-is_empty
returns-else-is_empty c = whole c.digits.ensures c.value_of-units.ensures c.in_default.ensures (sym c.is_empty.ensures ∙ c.if-is_empty.false)
