-- A gradient as it is written: with numbers of any size and any number of stops.
-- Assumes nothing.
use Rattle.std.specs.Prelude.{Bool, List}
use Rattle.gradient.specs.declared.Shape.{Shape}
use Rattle.gradient.specs.declared.Stop.{Stop}

pub record Written : Type 0 where
  pub shape : Shape
  pub repeating : Bool
  pub stops : List Stop

abbrev pub written : Shape → Bool → List Stop → Written
written s r ss = record { shape = s; repeating = r; stops = ss }
