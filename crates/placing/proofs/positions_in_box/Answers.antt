-- `placing::positions_in_box` meets its contract. Assumes nothing.
use mathlib.Core.Path.{◌≡◌, sym, ap, ◌∙◌}
use mathlib.Core.List.{map}
use Prim.Native.Nat.{ℕ, ◌≤◌}
use native.Mathlib.Omega.{arith}
use lib.ListN.{length, take}
use lib.Seq.{length-take-le}
use borrow.Author.Rules.{rules}
use Rattle.numbers.specs.Biased.{unbiased}
use Rattle.gradient.specs.Check.{stops_of}
use Rattle.line.specs.Bounds.{longest}
use Rattle.line.proofs.Bounds.{bounds}
use Rattle.placing.specs.Fixup.{fixup}
use Rattle.placing.specs.Placed.{spots_of}
use Rattle.placing.proofs.Laws.{positions-are}
use Rattle.placing.proofs.positions_in_box.Goals as goal
use Rattle.placing.proofs.positions_in_box.Goals.{After-line_length-line}

-- the line fits
short : (c : After-line_length-line) → c.line_length-line.result ≤ longest
short c = rw c.line_length-line.ensures (bounds.length c.args.g.shape c.args.w c.args.h c.requires.0 c.requires.1.shape)

pub line_length-line-requires : goal.line_length-line-requires
line_length-line-requires c = search rules

pub overflow_cast-n : goal.overflow_cast-n
overflow_cast-n c = search rules

pub list_units-ps-requires : goal.list_units-ps-requires
list_units-ps-requires c =
    (c.requires.1.fit, c.requires.1.stops, short (goal.at.list_units-ps-requires c).After-line_length-line)

pub slice_bounds-ps-end : goal.slice_bounds-ps-end
slice_bounds-ps-end c = search rules

pub slice_bounds-fix_up-end : goal.slice_bounds-fix_up-end
slice_bounds-fix_up-end c =
    let k : length c.list_units-ps.result ≡ 16 = search rules in
    sym (length-take-le c.args.g.count c.list_units-ps.result (omega (arith, c.requires.1.fit)))

pub fix_up-requires : goal.fix_up-requires
fix_up-requires c =
    let e = slice_bounds-fix_up-end c in
    (omega (arith, c.requires.1.two, e), omega (arith, c.requires.1.fit, e), short (goal.at.fix_up-requires c).After-line_length-line)

pub returns : goal.returns
returns c =
    let a = c.args in
    let g = a.g in
    ap (λ (n : ℕ). map unbiased (take n c.fix_up.result)) (slice_bounds-fix_up-end c.before.before)
    ∙ c.fix_up.ensures
    ∙ ap (fixup c.line_length-line.result) c.list_units-ps.ensures
    ∙ ap (λ (n : ℕ). fixup n (spots_of n (stops_of g))) c.line_length-line.ensures
    ∙ sym (positions-are g a.w a.h)
