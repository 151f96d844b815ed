-- `color::average_color` meets its contract. Assumes nothing.
use mathlib.Core.Path.{◌≡◌, sym, ap, ◌∙◌}
use Prim.Native.Nat.{ℕ, ◌-◌, ◌*◌}
use Rattle.numbers.specs.Fraction.{◌⁄◌, nearest}
use Rattle.color.specs.Stop.{Channel, red, green, blue, alpha}
use Rattle.color.specs.Lent.{pairs_sum, stops_of}
use Rattle.color.specs.Average.{equally_apart, average_of}
use Rattle.color.proofs.Average.{index, average-lent}
use Rattle.color.proofs.average_color.Goals as goal

pub returns : goal.returns
returns c =
    λ ps e.
    let a = c.args in
    let vs = a.values.now in
    let at : (k : Channel) → nearest (pairs_sum vs (index k) 0 (a.n - 1) ⁄ (2 * (a.n - 1) * 255)) ≡ nearest (average_of equally_apart (stops_of ps vs) k) =
    λ k. ap (λ (n : ℕ). nearest (pairs_sum vs (index k) 0 (n - 1) ⁄ (2 * (n - 1) * 255))) (sym e) ∙ average-lent ps vs k in
    λ i. record {
      red = (c.average_channel.ensures ∙ at red) i;
      green = (c.average_channel-2.ensures ∙ at green) i;
      blue = (c.average_channel-3.ensures ∙ at blue) i;
      alpha = (c.average_channel-4.ensures ∙ at alpha) i;
    }
