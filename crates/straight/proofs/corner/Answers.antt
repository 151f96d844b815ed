-- `straight::corner` meets its contract. Assumes nothing.
use Prim.Native.Nat.{◌<◌}
use native.Mathlib.Omega.{arith}
use Rattle.line.specs.declared.Line.TheVariants as L
use Rattle.line.proofs.Bounds.{sound-location}
use Rattle.straight.proofs.corner.Goals as goal
use Rattle.straight.proofs.corner.Goals.{Joined-below, Joined-right, then-right, else-right, then-below, else-below}

column : (c : Joined-right) → c.if-right.i < c.args.z.w
column c = let p = c.requires in elim c.if-right.branch [ then-right w ↦ omega (arith, w.i-is, p.4, p.5) | else-right w ↦ omega (arith, w.i-is, p.4, p.5) ]

row : (c : Joined-below) → c.if-below.j < c.args.z.h
row c = elim c.if-below.branch [ then-below w ↦ omega (arith, w.j-is) | else-below w ↦ omega (arith, w.j-is) ]

pub location-requires : goal.location-requires
location-requires c = (c.requires.0, c.requires.1, column (goal.at.location-requires c).Joined-right, row c)

pub overflow_cast-result : goal.overflow_cast-result
overflow_cast-result c =
    let a = c.args in
    omega (arith, c.location.ensures, sound-location (L.Straight a.v) a.z.w a.z.h _ _ c.requires.1 c.requires.0 (column (goal.at.overflow_cast-result c).Joined-right) (row (goal.at.overflow_cast-result c).Joined-below))
