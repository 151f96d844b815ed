-- `root::find` meets its contract. The loop's invariant: what was brought down of x is q² + rest, and rest is at most 2q.
-- Assumes nothing.
use Rattle.std.proofs.Common.{◌≡◌, ℕ, ◌+◌, ◌-◌, ◌*◌, ◌/◌, ◌%◌, ◌^◌, ◌<◌, ◌≤◌, sym, ap, ◌∙◌, mul-le-mul, lt_of_not-le, div-le_self, div-one, sub-eq-zero_of_le, arith, shr-shr}
use native.Mathlib.Nat.{sub-zero}
use Rattle.root.specs.Root.{root_of}
use Rattle.root.specs.Digits.{digits_of}
use Rattle.root.proofs.Laws.{root-eq}
use Rattle.root.proofs.Digits.{digits-most, digits-hold}
use Rattle.root.proofs.find.Goals as goal
use Rattle.root.proofs.find.Invariants.{Leaves}

leaves-root : (y q rest : ℕ) → Leaves y q rest → q ≡ root_of 1 y
leaves-root y q rest l = root-eq 1 y q (omega arith) (record { low = omega (arith, l.0); high = omega (arith, l.0, l.1) })

leaves-small : (x y q rest : ℕ) → x < 2 ^ 64 → y ≤ x → Leaves y q rest → q < 4294967296
leaves-small x y q rest h le l = lt_of_not-le (λ g. omega (arith, mul-le-mul g g, l.0))

-- a round: the digit 1, or 0
one : (y q rest : ℕ) → Leaves (y / 4) q rest → 2 * (2 * q) + 1 ≤ 4 * rest + y % 4 → Leaves y (2 * q + 1) (4 * rest + y % 4 - (2 * (2 * q) + 1))
one y q rest l h = (omega (arith, l.0), omega (arith, l.1))

none : (y q rest : ℕ) → Leaves (y / 4) q rest → 4 * rest + y % 4 < 2 * (2 * q) + 1 → Leaves y (2 * q) (4 * rest + y % 4)
none y q rest l h = (omega (arith, l.0), omega arith)

-- what is brought down: two digits more by one more round, and all of them in the end
two-more : (x k r : ℕ) → r < k → x / 2 ^ (2 * (k - (r + 1))) / 4 ≡ x / 2 ^ (2 * (k - r))
two-more x k r h = shr-shr x (2 * (k - (r + 1))) 2 ∙ ap (λ (e : ℕ). x / 2 ^ e) (omega arith)

bring : (x k r q rest : ℕ) → r < k → Leaves (x / 2 ^ (2 * (k - r))) q rest → Leaves (x / 2 ^ (2 * (k - (r + 1))) / 4) q rest
bring x k r q rest h l = rw (two-more x k r h) l

all : (x k r : ℕ) → k ≤ r → x / 2 ^ (2 * (k - r)) ≡ x
all x k r h = ap (λ (e : ℕ). x / 2 ^ (2 * e)) (sub-eq-zero_of_le h) ∙ div-one x

pub root_digits-digits-requires : goal.root_digits-digits-requires
root_digits-digits-requires c = tt

pub loop-rounds-init : goal.loop-rounds-init
loop-rounds-init c =
    let x = c.args.x in
    let e = c.root_digits-digits.ensures in
    (omega arith, rw e (digits-most x c.ranges.x.fits), omega arith, (sym (rw (sub-zero c.root_digits-digits.result, e) (digits-hold x)), omega arith))

pub overflow_add-rounds : goal.overflow_add-rounds
overflow_add-rounds c = omega arith

pub overflow_sub-left : goal.overflow_sub-left
overflow_sub-left c = omega arith

pub overflow_mul-left : goal.overflow_mul-left
overflow_mul-left c = omega arith

pub overflow_mul-q : goal.overflow_mul-q
overflow_mul-q c = omega arith

pub overflow_mul-more : goal.overflow_mul-more
overflow_mul-more c = omega arith

pub overflow_add-more : goal.overflow_add-more
overflow_add-more c = omega arith

pub overflow_mul-rest : goal.overflow_mul-rest
overflow_mul-rest c = omega arith

pub overflow_cast-rest : goal.overflow_cast-rest
overflow_cast-rest c = omega arith

pub overflow_shr-rest : goal.overflow_shr-rest
overflow_shr-rest c = omega arith

pub overflow_add-rest : goal.overflow_add-rest
overflow_add-rest c = omega arith

pub overflow_add-q : goal.overflow_add-q
overflow_add-q c = omega arith

pub loop-rounds-smaller-then-more-rest : goal.loop-rounds-smaller-then-more-rest
loop-rounds-smaller-then-more-rest c = omega arith

pub loop-rounds-preserved-then-more-rest : goal.loop-rounds-preserved-then-more-rest
loop-rounds-preserved-then-more-rest c =
    let start = c.before.before.before.before in
    let digits = c.root_digits-digits.result in
    let loop = c.loop-rounds in
    let b = bring start.args.x digits loop.rounds loop.q loop.rest (omega arith) loop.invariant.3 in
    let l = one _ loop.q loop.rest b (omega arith) in
    (omega arith, loop.invariant.1, leaves-small start.args.x _ _ _ start.ranges.x.fits (div-le_self _ _) l, l)

pub loop-rounds-smaller : goal.loop-rounds-smaller
loop-rounds-smaller c = omega arith

pub loop-rounds-preserved : goal.loop-rounds-preserved
loop-rounds-preserved c =
    let start = c.before.before.before.before in
    let digits = c.root_digits-digits.result in
    let loop = c.loop-rounds in
    let b = bring start.args.x digits loop.rounds loop.q loop.rest (omega arith) loop.invariant.3 in
    let l = none _ loop.q loop.rest b (omega arith) in
    (omega arith, loop.invariant.1, leaves-small start.args.x _ _ _ start.ranges.x.fits (div-le_self _ _) l, l)

pub returns : goal.returns
returns c =
    let x = c.args.x in
    let digits = c.root_digits-digits in
    let loop = c.loop-rounds in
    let q : loop.q ≡ root_of 1 x = leaves-root _ _ _ loop.invariant.3 ∙ ap (root_of 1) (all x _ _ c.loop-rounds-test.false) in
    let rounds : loop.rounds ≡ digits.result = omega arith in
    (q, rounds ∙ digits.ensures ∙ ap digits_of (sym q), omega arith)
