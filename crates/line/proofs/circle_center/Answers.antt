-- `line::circle_center` meets its contract. Assumes nothing.
use mathlib.Core.Path.{ap₂}
use lib.IntN.{ℤ}
use Rattle.line.proofs.Circles.{biased-below}
use Rattle.line.proofs.Bounds.{coordinate-le}
use Rattle.line.proofs.circle_center.Goals as goal

pub returns : goal.returns
returns c =
    let p = c.coordinate_units.ensures in
    let q = c.coordinate_units-2.ensures in
    record {
      is = ap₂ (λ (x y : ℤ). record { x = x; y = y }) p q;
      near = record {
        x = biased-below _ (rw p (coordinate-le c.args.x c.args.w c.requires.1 c.requires.0.width));
        y = biased-below _ (rw q (coordinate-le c.args.y c.args.h c.requires.2 c.requires.0.height));
      };
    }
