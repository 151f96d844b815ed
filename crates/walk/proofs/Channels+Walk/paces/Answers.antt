-- `walk::Channels<Walk>::paces` meets its contract. Assumes nothing.
use Rattle.std.proofs.Common.{rules}
use Rattle.color.specs.Stop.{red, green, blue, alpha}
use Rattle.walk.proofs.Channels+Walk.paces.Goals as goal

pub returns : goal.returns
returns c = record { red = let h = c.map.ensures red in search rules; green = let h = c.map.ensures green in search rules; blue = let h = c.map.ensures blue in search rules; alpha = let h = c.map.ensures alpha in search rules }
