-- The low 32 bits tell a number from others near it, and each step of the search keeps the root in its range.
-- Assumes nothing.
use Rattle.std.proofs.Common.{◌≡◌, ℕ, ◌+◌, ◌*◌, ◌%◌, ◌<◌, ◌≤◌, ap, arith}
use native.Mathlib.Decide.{dec_le}
use Rattle.root.specs.Root.{IsRoot, root_of}
use Rattle.root.proofs.Laws.{root-eq}
use Rattle.lowroots.specs.Found.{Finds, Sought}
use Rattle.lowroots.specs.declared.Search.{Search}

-- where two numbers are close, the difference of their low 32 bits is their own
pub difference : (low g m square rest z : ℕ) → m ≡ g → square ≡ m * m % 4294967296 → (rest + square) % 4294967296 ≡ low → rest < 4294967296
    → z % 4294967296 ≡ low → g * g ≤ z → z < g * g + 2147483648 → rest % 2147483648 + g * g ≡ z
difference low g m square rest z em sq is fits ez lo hi =
    let q : m * m ≡ g * g = ap (λ (k : ℕ). k * k) em in
    omega arith

-- ---- four numbers: x, y and v are 1 where z is at least the square of the first, second and third number after g
pub four : (low g m b square rest over x y v : ℕ) → m ≡ g % 134217728 → square ≡ m * m % 4294967296 → (rest + square) % 4294967296 ≡ low → rest < 4294967296
    → over ≡ rest % 2147483648 → (x ≤ 1) × (x ≡ 0 → over ≤ 2 * m) × (x ≡ 1 → 2 * m < over) → (y ≤ 1) × (y ≡ 0 → over ≤ 2 * (2 * m) + 3) × (y ≡ 1 → 2 * (2 * m) + 3 < over)
    → (v ≤ 1) × (v ≡ 0 → over ≤ 2 * m + (2 * (2 * m) + 3) + 5) × (v ≡ 1 → 2 * m + (2 * (2 * m) + 3) + 5 < over) → b ≡ m + x + y + v → Finds 4 134217728 low g b
four low g m b square rest over x y v em sq is fits eo hx hy hv eb z ez small lo hi =
    let eg : m ≡ g = omega arith in
    let e : rest % 2147483648 + g * g ≡ z = difference low g m square rest z eg sq is fits ez lo (omega (arith, hi)) in
    let o : over + g * g ≡ z = omega arith in
    root-eq 1 z b (omega arith) (go eg o (dec_le x 0) (dec_le y 0) (dec_le v 0))
  where
    at : (k : ℕ) → b ≡ g + k → (g + k) * (g + k) ≤ z → z < (g + k + 1) * (g + k + 1) → IsRoot 1 z b
    at k e l h = record { low = rw e (omega arith); high = rw e (omega arith) }

    go : m ≡ g → over + g * g ≡ z → Dec (x ≤ 0) → Dec (y ≤ 0) → Dec (v ≤ 0) → IsRoot 1 z b
    go eg o (yes p) (yes q) (yes r) = at 0 (omega arith) (omega arith) (omega (arith, hx.1 (omega arith)))
    go eg o (no p) (yes q) (yes r) = at 1 (omega (arith, hx.0)) (omega (arith, hx.2 (omega (arith, hx.0)))) (omega (arith, hy.1 (omega arith)))
    go eg o (no p) (no q) (yes r) = at 2 (omega (arith, hx.0, hy.0)) (omega (arith, hy.2 (omega (arith, hy.0)))) (omega (arith, hv.1 (omega arith)))
    go eg o (no p) (no q) (no r) = at 3 (omega (arith, hx.0, hy.0, hv.0)) (omega (arith, hv.2 (omega (arith, hv.0)))) (omega arith)
    go eg o (yes p) (no q) r = absurd (omega (arith, hx.1 (omega arith), hy.2 (omega (arith, hy.0))))
    go eg o (yes p) (yes q) (no r) = absurd (omega (arith, hx.1 (omega arith), hv.2 (omega (arith, hv.0))))
    go eg o (no p) (yes q) (no r) = absurd (omega (arith, hy.1 (omega arith), hv.2 (omega (arith, hv.0))))

-- ---- a search
-- the one number that is left is the root
pub found : (z : ℕ) (s : Search) → Sought z 1 s → s.from ≡ root_of 1 z
found z s h = root-eq 1 z s.from (omega arith) (record { low = omega (arith, h.over); high = omega (arith, h.below) })
