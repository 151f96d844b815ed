-- What holds of every list of stops that is read holds of the stops of a gradient as it is written.
-- Assumes nothing.
use mathlib.Core.Bool.{Bool}
use mathlib.Core.List.{List, []}
use Prim.Native.Nat.{ℕ}
use lib.IntN.{ℤ}
use Rattle.text.specs.Text.{Read, got, refused, ◌>>=◌, whole_of}
use Rattle.text.proofs.Laws.{Gets}
use Rattle.gradient.specs.declared.Side.TheVariants as S
use Rattle.gradient.specs.declared.Direction.{Direction}
use Rattle.gradient.specs.declared.Direction.TheVariants as D
use Rattle.gradient.specs.declared.Shape.{Shape}
use Rattle.gradient.specs.declared.Shape.TheVariants as Sh
use Rattle.gradient.specs.declared.Stop.{Stop}
use Rattle.directions.specs.Direction.{direction_of}
use Rattle.circles.specs.Circle.{radial_of}
use Rattle.stoplist.specs.Stops.{items_of, two_stops_of}
use Rattle.reader.specs.declared.Kind.{Kind}
use Rattle.reader.specs.declared.Kind.TheVariants as K
use Rattle.reader.specs.Written.{Written, written}
use Rattle.reader.specs.Text.{first, others, with_stops, by_direction, linear_of, circular_of, of_kind, kind_of, body_of, function_of}

module _ (P : List Stop → Type 0) (keep : ℤ → ℤ) (read : (items : List (List ℕ)) → Gets P (two_stops_of keep items)) where
  abbrev Holds : Read Written → Type 0
  Holds = Gets (λ w. P w.stops)

  after : {A : Type 0} (r : Read A) (f : A → List ℕ → Read Written) → ((a : A) (l : List ℕ) → Holds (f a l)) → Holds (r >>= f)
  after (got a l) f h = h a l
  after refused f h = tt

  with-stops : (shape : Shape) (r : Bool) (items : List (List ℕ)) → Holds (with_stops keep shape r items)
  unfolding with_stops
  with-stops shape r items = go (two_stops_of keep items) (read items)
    where
      go : (q : Read (List Stop)) → Gets P q → Holds (q >>= λ ss _. got (written shape r ss) [])
      go (got ss l) h = h
      go refused h = tt

  by-direction : (d : Read Direction) (r : Bool) (items : List (List ℕ)) → Holds (by_direction keep d r items)
  by-direction (got d l) r items = with-stops (Sh.Linear d) r (others items)
  by-direction refused r items = with-stops (Sh.Linear (D.Side S.Bottom)) r items

  of-kind : (kind : Kind) (body : List ℕ) → Holds (of_kind keep kind body)
  unfolding linear_of circular_of
  of-kind (K.Linear r) body = by-direction (whole_of (direction_of keep) (first (items_of body))) r (items_of body)
  of-kind (K.Radial r) body =
      after (whole_of (radial_of keep) (first (items_of body))) (λ shape _. with_stops keep shape r (others (items_of body))) (λ shape l. with-stops shape r (others (items_of body)))

  pub carried : (l : List ℕ) → Holds (function_of keep l)
  unfolding function_of
  carried l =
      after (kind_of l) (λ kind k. body_of k >>= λ body _. of_kind keep kind body)
      (λ kind k. after (body_of k) (λ body _. of_kind keep kind body) (λ body m. of-kind kind body))
