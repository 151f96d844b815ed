-- `line::vector_location` meets its contract. Assumes nothing.
use Prim.Native.Nat.{◌*◌, ◌<◌}
use native.Mathlib.Omega.{arith}
use Rattle.line.specs.Location.{location_by}
use Rattle.line.specs.Represented.{odd_of}
use Rattle.line.proofs.Lines.{square-is, odd-below, weighted-le}
use Rattle.line.proofs.vector_location.Goals as goal
use Rattle.line.proofs.vector_location.Goals.{After-weighted-s, Start}

-- the two odd numbers are below 4,096
short : (c : Start) → (odd_of c.args.v.left c.args.w c.args.i < 4096) × (odd_of c.args.v.up c.args.h c.args.j < 4096)
short c =
    let p = odd-below c.args.v.left c.args.w c.args.i c.requires.2 in
    let q = odd-below c.args.v.up c.args.h c.args.j c.requires.3 in
    (omega (arith, c.requires.0.width), omega (arith, c.requires.0.height))

small : (c : After-weighted-s) → 32 * c.weighted-s.result < 4294967296
small c =
    let v = c.args.v in
    let p = short c.before.before.before in
    let a = c.odd-a in
    let b = c.odd-b in
    omega (arith, c.weighted-s.ensures, weighted-le 4095 a.result b.result v.x v.y (omega (arith, a.ensures)) (omega (arith, b.ensures)), c.requires.1.sum)

pub on_line-requires : goal.on_line-requires
on_line-requires c = (omega (arith, small c), c.requires.1)

pub returns : goal.returns
unfolding location_by
returns c =
    let v = c.args.v in
    rw (square-is v.left v.up c.args.w c.args.h v.x v.y c.args.i c.args.j c.requires.2 c.requires.3, ← c.odd-a.ensures, ← c.odd-b.ensures, ← c.weighted-s.ensures)
    c.on_line.ensures
