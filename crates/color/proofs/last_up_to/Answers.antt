-- `color::last_up_to` meets its contract. Assumes nothing.
use Rattle.std.proofs.Common.{rules, arith, length, ◌≡◌, ◌-◌, ◌<◌}
use Rattle.color.proofs.Place.{last_at}
use Rattle.color.proofs.last_up_to.Goals as goal

pub returns-in-Some : goal.returns-in-Some
returns-in-Some c =
    last_at c.args.positions.now c.args.at c.in-Some.i (search rules) (search rules)
    (λ k m. let u = c.in-Some.ensures.runs in
    let l : u.0.len ≡ length c.args.positions.now - c.in-Some.i = search rules in
    let o : k < u.0.len = omega (arith, l) in
    let f = (u.2.1 (search rules)).1 k (omega (arith, c.iter.ensures.len)) in
    let b = c.iter.ensures.runs_back u.0 in
    search rules)
