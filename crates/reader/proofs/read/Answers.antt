-- `reader::read` meets its contract. Assumes nothing.
use mathlib.Core.Path.{ap, ◌∙◌}
use mathlib.Core.List.{List}
use Prim.Native.Nat.{ℕ}
use borrow.Author.Tests.{lt-ltb}
use Rattle.tokens.specs.Cut.{cut}
use Rattle.reader.specs.Text.{function_of}
use Rattle.reader.specs.Reading.{read_of, read_reply}
use Rattle.reader.specs.View.{draft_of}
use Rattle.reader.proofs.Cut.{answer, read_is}
use Rattle.reader.proofs.read.Goals as goal

pub returns-then-s-gt1024 : goal.returns-then-s-gt1024
unfolding read_of read_reply
returns-then-s-gt1024 c = rw (lt-ltb _ _ c.if-s-gt1024.true)

pub returns-in-Some : goal.returns-in-Some
returns-in-Some c =
    c.conclude.ensures
    ∙ ap answer (c.in-Some.ensures ∙ ap (λ (l : List ℕ). draft_of (function_of cut l)) c.skip_space.ensures)
    ∙ read_is c.args.s.now c.if-s-gt1024.false

pub returns-in-None : goal.returns-in-None
returns-in-None c =
    ap answer (c.in-None.ensures ∙ ap (λ (l : List ℕ). draft_of (function_of cut l)) c.skip_space.ensures)
    ∙ read_is c.args.s.now c.if-s-gt1024.false
