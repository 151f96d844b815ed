-- `text::run` meets its contract. Assumes nothing.
use mathlib.Core.Path.{refl, ap, ◌∙◌}
use Rattle.std.proofs.Common.{arith, get_or, []}
use Rattle.std.specs.List.{prefix_len}
use Rattle.text.proofs.Runs.{splits_run, ends_in_four, past_four, ends_past_fours}
use Rattle.text.proofs.run.Goals as goal

pub returns-then-end-lt4 : goal.returns-then-end-lt4
returns-then-end-lt4 g c p h =
    let here = c.run_end-end.ensures.as_class p h ∙ ap (λ fours. prefix_len p (get_or fours c.loop-k.k [])) c.as_chunks.ensures.front in
    let at = ends_in_four p _ c.loop-k.k _ (omega (arith, c.as_chunks.ensures.front_len)) (c.loop-k.invariant p h) here c.if-end-lt4.true in
    rw (c.split_at.ensures.front, c.split_at.ensures.back, at) (splits_run p _ (λ b. refl) _)

pub loop-k-preserved : goal.loop-k-preserved
loop-k-preserved g c p h =
    let here = c.run_end-end.ensures.as_class p h ∙ ap (λ fours. prefix_len p (get_or fours c.loop-k.k [])) c.as_chunks.ensures.front in
    past_four p _ c.loop-k.k _ (omega (arith, c.as_chunks.ensures.front_len)) (c.loop-k.invariant p h) here c.if-end-lt4.false

pub returns : goal.returns
returns g c p h =
    let at = ends_past_fours p _ _ c.loop-k.k _ _ (c.loop-k.invariant p h) c.loop-k-test.false c.loop-k.auto.k-end c.as_chunks.ensures.front_len c.as_chunks.ensures.back (c.run_end.ensures.as_class p h) in
    rw (c.split_at-2.ensures.front, c.split_at-2.ensures.back, at) (splits_run p _ (λ b. refl) _)
