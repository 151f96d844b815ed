-- What is known of the rows above, where two lists take turns.
-- Assumes nothing.
use mathlib.Core.Path.{◌≡◌, refl}
use mathlib.Core.List.{List}
use Prim.Native.Nat.{ℕ, ◌+◌, ◌%◌}
use native.Mathlib.Omega.{arith}
use Rattle.line.specs.declared.BiasedCenter.{BiasedCenter}
use Rattle.circleroots.specs.Squares.{Known, KnownBefore, KnownAbove}
use Rattle.circleroots.specs.declared.RowsKnown.{RowsKnown}
use Rattle.circleroots.specs.declared.RowsKnown.TheVariants as R
use Rattle.circle.specs.Circular.{BeforeInTurn, AboveInTurn, one_more}

module _ (c : BiasedCenter) (w j : ℕ) where
  in_p : (k : ℕ) (p q : List ℕ) → (j + k) % 2 ≡ 0 → BeforeInTurn c w k j p q → KnownBefore c w k j p
  in_p k p q h b = record { row = b.row; next = b.next; known = b.turn.even (omega (arith, b.next)) }

  in-q : (k : ℕ) (p q : List ℕ) → (j + k) % 2 ≡ 1 → BeforeInTurn c w k j p q → KnownBefore c w k j q
  in-q k p q h b = record { row = b.row; next = b.next; known = b.turn.odd (omega (arith, b.next)) }

  pub above-even : (k : RowsKnown) (p q : List ℕ) → j % 2 ≡ 0 → AboveInTurn k c w j p q → KnownAbove k c w j p q
  above-even R.None p q h a = a
  above-even R.One p q h a = in-q 1 p q (omega arith) a
  above-even R.Two p q h a = (in-q 1 p q (omega arith) a.0, in_p 2 p q (omega arith) a.1)

  pub above_odd : (k : RowsKnown) (p q : List ℕ) → j % 2 ≡ 1 → AboveInTurn k c w j p q → KnownAbove k c w j q p
  above_odd R.None p q h a = a
  above_odd R.One p q h a = in_p 1 p q (omega arith) a
  above_odd R.Two p q h a = (in_p 1 p q (omega arith) a.0, in-q 2 p q (omega arith) a.1)

  -- row j is the row above the next one
  own-even : (p q : List ℕ) → j % 2 ≡ 0 → Known c w j p → BeforeInTurn c w 1 (j + 1) p q
  own-even p q h known = record { row = j; next = refl; turn = record { even = λ e. known; odd = λ e. absurd (omega arith) } }

  own-odd : (p q : List ℕ) → j % 2 ≡ 1 → Known c w j q → BeforeInTurn c w 1 (j + 1) p q
  own-odd p q h known = record { row = j; next = refl; turn = record { even = λ e. absurd (omega arith); odd = λ e. known } }

  -- the row above row j stays in its list
  kept-even : (p p' q : List ℕ) → j % 2 ≡ 0 → BeforeInTurn c w 1 j p q → BeforeInTurn c w 2 (j + 1) p' q
  kept-even p p' q h b = record { row = b.row; next = omega (arith, b.next); turn = record { even = λ e. absurd (omega (arith, b.next)); odd = b.turn.odd } }

  kept-odd : (p q q' : List ℕ) → j % 2 ≡ 1 → BeforeInTurn c w 1 j p q → BeforeInTurn c w 2 (j + 1) p q'
  kept-odd p q q' h b = record { row = b.row; next = omega (arith, b.next); turn = record { even = b.turn.even; odd = λ e. absurd (omega (arith, b.next)) } }

  pub more-even : (k : RowsKnown) (p p' q : List ℕ) → j % 2 ≡ 0 → AboveInTurn k c w j p q → Known c w j p' → AboveInTurn (one_more k) c w (j + 1) p' q
  more-even R.None p p' q h a known = own-even p' q h known
  more-even R.One p p' q h a known = (own-even p' q h known, kept-even p p' q h a)
  more-even R.Two p p' q h a known = (own-even p' q h known, kept-even p p' q h a.0)

  pub more-odd : (k : RowsKnown) (p q q' : List ℕ) → j % 2 ≡ 1 → AboveInTurn k c w j p q → Known c w j q' → AboveInTurn (one_more k) c w (j + 1) p q'
  more-odd R.None p q q' h a known = own-odd p q' h known
  more-odd R.One p q q' h a known = (own-odd p q' h known, kept-odd p q q' h a)
  more-odd R.Two p q q' h a known = (own-odd p q' h known, kept-odd p q q' h a.0)
