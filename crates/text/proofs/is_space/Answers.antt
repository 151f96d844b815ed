-- `text::is_space` meets its contract: the table is held against the definition at each of the 256 bytes, by computing. Assumes nothing.
use Rattle.std.proofs.Common.{refl, arith, nat_eq, get_or}
use Rattle.std.proofs.lemmas.Bool.{agree_below_at}
use Rattle.text.specs.declared.TheConstants.{SPACES}
use Rattle.text.specs.Text.{is_space}
use Rattle.text.proofs.is_space.Goals as goal

pub returns : goal.returns
unfolding is_space
returns c = agree_below_at (λ b. nat_eq (get_or SPACES b 0) 115) is_space 256 c.args.b refl (omega arith)
