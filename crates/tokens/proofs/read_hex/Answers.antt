-- `tokens::read_hex` meets its contract. Assumes nothing.
use Rattle.std.proofs.Common.{rules}
use Rattle.tokens.specs.Color.{is_hex}
use Rattle.tokens.proofs.Hex.{same_hex, hex-got, hex-not}
use Rattle.tokens.proofs.read_hex.Goals as goal

pub returns-in_err-color : goal.returns-in_err-color
returns-in_err-color c =
    let h = c.run.ensures is_hex (search (rules, same_hex)) in
    rw c.from_residual.ensures (hex-not h c.in_err-color.ensures)

pub returns : goal.returns
returns c =
    let h = c.run.ensures is_hex (search (rules, same_hex)) in
    hex-got h c.in_ok-color.ensures
