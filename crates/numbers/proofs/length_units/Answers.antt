-- `numbers::length_units` meets its contract. Assumes nothing.
use mathlib.Core.Path.{◌≡◌, ap, ◌∙◌}
use Prim.Native.Nat.{ℕ, ◌+◌, ◌*◌}
use native.Mathlib.Omega.{arith}
use Rattle.numbers.specs.Biased.{biased}
use Rattle.numbers.specs.Units.{rounded}
use Rattle.numbers.proofs.Signed.{small_same}
use Rattle.numbers.proofs.Units.{length_high, length-is}
use Rattle.numbers.proofs.length_units.Goals as goal
use Rattle.numbers.proofs.length_units.Goals.{After-biased, After-round-n}

is-biased : (c : After-biased) → c.biased.result ≡ biased c.args.t
is-biased c = c.biased.ensures ∙ ap biased (small_same c.args.t (omega (arith, c.requires)))

is-rounded : (c : After-round-n) → c.round-n.result ≡ rounded (biased c.args.t * 64 + 352) 1000
is-rounded c = c.round-n.ensures ∙ ap (λ (n : ℕ). rounded (n * 64 + 352) 1000) (is-biased c.before)

pub overflow_add-result : goal.overflow_add-result
overflow_add-result c = omega (arith, is-rounded c, length_high c.args.t c.requires)

pub overflow_cast-result : goal.overflow_cast-result
overflow_cast-result c = omega (arith, is-rounded c, length_high c.args.t c.requires)

pub returns : goal.returns
returns c = rw (is-rounded c) (length-is c.args.t c.requires)
