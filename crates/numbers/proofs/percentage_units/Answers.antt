-- `numbers::percentage_units` meets its contract. Assumes nothing.
use mathlib.Core.Path.{◌≡◌, ap, ◌∙◌}
use Prim.Native.Nat.{ℕ, ◌+◌, ◌*◌, ◌≤◌}
use native.Mathlib.Omega.{arith}
use Rattle.numbers.specs.Biased.{biased}
use Rattle.numbers.specs.Units.{rounded}
use Rattle.numbers.proofs.Signed.{small_same}
use Rattle.numbers.proofs.Units.{percentage-range, percentage-is}
use Rattle.numbers.proofs.percentage_units.Goals as goal
use Rattle.numbers.proofs.percentage_units.Goals.{After-biased, After-round-n}

is-biased : (c : After-biased) → c.biased.result ≡ biased c.args.p
is-biased c = c.biased.ensures ∙ ap biased (small_same c.args.p (omega (arith, c.requires.0)))

range : (c : After-round-n) → (326 * c.args.whole ≤ rounded ((biased c.args.p + 45568) * c.args.whole) 100000) × (rounded ((biased c.args.p + 45568) * c.args.whole) 100000 ≤ 346 * c.args.whole)
range c = percentage-range c.args.p c.args.whole c.requires.0

is-rounded : (c : After-round-n) → c.round-n.result ≡ rounded ((biased c.args.p + 45568) * c.args.whole) 100000
is-rounded c = c.round-n.ensures ∙ ap (λ (n : ℕ). rounded ((n + 45568) * c.args.whole) 100000) (is-biased c.before)

pub overflow_add-result : goal.overflow_add-result
overflow_add-result c = omega (arith, is-rounded c, range c)

pub overflow_sub-result : goal.overflow_sub-result
overflow_sub-result c = omega (arith, is-rounded c, range c)

pub overflow_cast-result : goal.overflow_cast-result
overflow_cast-result c = omega (arith, is-rounded c, range c)

pub returns : goal.returns
returns c = rw (is-rounded c) (percentage-is c.args.p c.args.whole c.requires.0 c.requires.1)
