-- `stopslayout::placed_at` meets its contract. Assumes nothing.
use mathlib.Core.Path.{◌≡◌, ◌∙◌}
use Rattle.std.proofs.Common.{rules, tests}
use Rattle.words.specs.Word.{up_to}
use Rattle.words.proofs.UpTo.{up_to-all}
use Rattle.gradient.proofs.Lists.{made-at}
use Rattle.stops.specs.Blank.{blank_placed}
use Rattle.stopslayout.specs.Taken.{placed_stop_at, placed_at}
use Rattle.stopslayout.proofs.placed_at.Goals as goal

pub returns : goal.returns
unfolding placed_at
returns c =
    let s = c.args.s.now in
    let e : up_to 16 (placed_stop_at s) ≡ c.from_fn.result =
    up_to-all 16 (placed_stop_at s) c.from_fn.result blank_placed c.from_fn.ensures.items.long
    (made-at _ _ (placed_stop_at s) (λ i y q k. search (rules, tests)) _ 16 c.from_fn.ensures.items blank_placed) in
    rw (c.from.ensures ∙ c.byte_at.ensures, e)
