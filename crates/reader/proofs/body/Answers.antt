-- `reader::body` meets its contract. Assumes nothing.
use borrow.Author.Rules.{rules}
use Rattle.reader.proofs.Closing.{body-got, body-other, body-end}
use Rattle.reader.proofs.body.Goals as goal
use Rattle.reader.proofs.body.Goals.{in_default-via-then-trimmed-lt1, in_default-via-else-trimmed-lt1+in_default-1}

pub returns-in-41 : goal.returns-in-41
returns-in-41 c = body-got _ _ c.trim_end-trimmed.ensures c.in-41.len_at_least (search rules)

pub returns-in_default : goal.returns-in_default
returns-in_default c =
    elim c.in_default.branch [
      | in_default-via-then-trimmed-lt1 w ↦ body-end _ _ c.trim_end-trimmed.ensures (search rules)
      | in_default-via-else-trimmed-lt1+in_default-1 w ↦ body-other _ _ c.trim_end-trimmed.ensures (search rules) (search rules)
    ]
