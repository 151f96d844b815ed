-- `walk::Channels::zip_with` meets its contract. Assumes nothing.
use Rattle.color.specs.Stop.{red, green, blue, alpha}
use Rattle.walk.proofs.Four.{every}
use Rattle.walk.proofs.Channels.zip_with.Goals as goal

pub f-requires : goal.f-requires
f-requires g c = c.requires red

pub f-requires-2 : goal.f-requires-2
f-requires-2 g c = c.requires green

pub f-requires-3 : goal.f-requires-3
f-requires-3 g c = c.requires blue

pub f-requires-4 : goal.f-requires-4
f-requires-4 g c = c.requires alpha

pub returns : goal.returns
returns g c = every _ c.f.ensures c.f-2.ensures c.f-3.ensures c.f-4.ensures
