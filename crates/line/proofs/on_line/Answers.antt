-- `line::on_line` meets its contract. Assumes nothing.
use mathlib.Core.Path.{sym, ap, ◌∙◌}
use Prim.Native.Nat.{ℕ, ◌*◌}
use Rattle.root.specs.Root.{root_of}
use Rattle.line.proofs.Lines.{norm-is}
use Rattle.line.proofs.on_line.Goals as goal

pub returns : goal.returns
returns c =
    let v = c.args.v in
    c.root_near.ensures ∙ ap (λ (n : ℕ). root_of n (c.args.t * c.args.t)) (sym (norm-is v.left v.up v.x v.y))
