-- `line::angle_vector` meets its contract: one law serves the four quadrants. Assumes nothing.
use mathlib.Core.Path.{◌≡◌, refl, sym, ap, ◌∙◌}
use Prim.Native.Nat.{ℕ, ◌+◌, ◌-◌, ◌/◌, ◌%◌}
use native.Mathlib.Omega.{arith}
use lib.IntN.{pos, neg_ℤ, neg_ℤ-neg_ℤ}
use Rattle.numbers.specs.Biased.{biased}
use Rattle.numbers.proofs.Signed.{small_same}
use Rattle.sine.specs.Sines.{sine_of}
use Rattle.line.specs.Vector.{vector, quarters}
use Rattle.line.proofs.Vectors.{quarters-is, angle-in}
use Rattle.line.proofs.angle_vector.Goals as goal
use Rattle.line.proofs.angle_vector.Goals.{After-biased}

is-biased : (c : After-biased) → c.biased.result ≡ biased c.args.a
is-biased c = c.biased.ensures ∙ ap biased (small_same c.args.a c.requires)

-- what is left of the angle after whole turns, as the code finds it
turned : (c : After-biased) → quarters c.args.a ≡ (c.biased.result + 285568) % 360000 / 250
turned c = quarters-is c.args.a c.requires ∙ ap (λ (n : ℕ). (n + 285568) % 360000 / 250) (sym (is-biased c))

pub returns-in-0 : goal.returns-in-0
returns-in-0 c =
    let q : ℕ = (c.biased.result + 285568) % 360000 / 250 in
    rw (c.sine-near.ensures, c.sine-far.ensures)
    (angle-in _ c.args.a q 0 1 (turned c.before.before.before) c.in-0.is (omega arith) refl refl refl)

pub returns-in-1 : goal.returns-in-1
returns-in-1 c =
    let q : ℕ = (c.biased.result + 285568) % 360000 / 250 in
    rw (c.sine-near.ensures, c.sine-far.ensures)
    (angle-in _ c.args.a q 1 2 (turned c.before.before.before) c.in-1.is (omega arith) refl (omega arith)
    (ap (vector (pos (sine_of (360 - q % 360)))) (sym (neg_ℤ-neg_ℤ (pos (sine_of (q % 360)))))))

pub returns-in-2 : goal.returns-in-2
returns-in-2 c =
    let q : ℕ = (c.biased.result + 285568) % 360000 / 250 in
    rw (c.sine-near.ensures, c.sine-far.ensures)
    (angle-in _ c.args.a q 2 3 (turned c.before.before.before) c.in-2.is (omega arith) refl refl
    (ap (vector (neg_ℤ (pos (sine_of (q % 360))))) (sym (neg_ℤ-neg_ℤ (pos (sine_of (360 - q % 360)))))))

pub returns-in_default : goal.returns-in_default
returns-in_default c =
    let q : ℕ = (c.biased.result + 285568) % 360000 / 250 in
    rw (c.sine-near.ensures, c.sine-far.ensures)
    (angle-in _ c.args.a q 3 0 (turned c.before.before.before) (omega arith) (omega arith) refl (omega arith) refl)
