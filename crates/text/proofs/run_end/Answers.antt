-- `text::run_end` meets its contract. Assumes nothing.
use Rattle.std.proofs.Common.{rules, tests, ◌≡◌, not, cond, ltb, length}
use Rattle.std.specs.Prelude.{Some, None}
use Rattle.std.specs.List.{position_or_len}
use Rattle.std.proofs.lemmas.Iterator.{YieldsList-from_slice}
use Rattle.std.proofs.lemmas.Iterator.Search.{position_from_yields_List}
use Rattle.std.proofs.Math.Bool.{not-not}
use Rattle.std.proofs.lemmas.List.Sums.{prefix_len-le-length}
use Rattle.text.proofs.Runs.{same_length, found_at}
use Rattle.text.proofs.run_end.Goals as goal

pub returns-clause-as_class : goal.returns-clause-as_class
returns-clause-as_class g c p h =
    let end = position_or_len (λ b. not (p b)) c.args.s.now in
    let found : c.position.result ≡ cond (ltb end (length c.args.s.now)) (Some end) None =
    position_from_yields_List (λ b. not (p b)) _ _ c.position.result c.position.ensures.ran (YieldsList-from_slice c.args.s.now c.iter.ensures.rest) (λ x b q k. search (rules, tests, h.says)) in
    rw (c.unwrap_or.ensures, found, found_at end _ (prefix_len-le-length _ c.args.s.now)) (same_length p _ (λ b. not-not (p b)) _)
