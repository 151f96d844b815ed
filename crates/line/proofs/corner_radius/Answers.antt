-- `line::corner_radius` meets its contract. Assumes nothing.
use mathlib.Core.Path.{ap, ap₂, ◌∙◌}
use Prim.Native.Nat.{ℕ, ◌+◌, ◌*◌}
use Rattle.root.specs.Root.{root_of}
use Rattle.line.proofs.Circles.{corner-is}
use Rattle.line.proofs.corner_radius.Goals as goal

pub returns : goal.returns
returns c =
    c.hypotenuse.ensures
    ∙ ap₂ (λ (m n : ℕ). root_of 1 (m * m + n * n)) c.edge.ensures.0 c.edge-2.ensures.0
    ∙ ap (root_of 1) (corner-is c.args.choice _ _ _ _)
