-- Laws of the items between the brackets: what stands before the stops, and the stops. Assumes nothing.
use mathlib.Core.Path.{◌≡◌, refl, sym, ap, ◌∙◌}
use mathlib.Core.Bool.{Bool}
use mathlib.Core.List.{List, [], ◌∷◌}
use Prim.Native.Nat.{ℕ}
use native.Mathlib.Omega.{arith}
use Rattle.text.specs.Text.{Read, got, refused, ◌>>=◌, whole_of}
use Rattle.gradient.specs.declared.Side.TheVariants as S
use Rattle.gradient.specs.declared.Direction.{Direction}
use Rattle.gradient.specs.declared.Direction.TheVariants as D
use Rattle.gradient.specs.declared.Shape.{Shape}
use Rattle.gradient.specs.declared.Shape.TheVariants as Sh
use Rattle.gradient.specs.declared.Stop.{Stop}
use Rattle.directions.specs.Direction.{direction_of}
use Rattle.circles.specs.Circle.{radial_of}
use Rattle.stoplist.specs.Stops.{items_of, stops_of, two_stops_of}
use Rattle.stoplist.specs.View.{list_in}
use Rattle.stoplist.specs.declared.StopList.{StopList}
use Rattle.std.specs.Prelude.{Some, None}
use Rattle.std.specs.Option.{option_map}
use Rattle.tokens.specs.Cut.{cut}
use Rattle.reader.specs.Written.{written}
use Rattle.reader.specs.Text.{with_stops, by_direction, linear_of, circular_of, first}
use Rattle.reader.specs.View.{draft_of}

some-none : {A : Type 0} {x : A} → Some x ≡ None → ⊥
some-none e = let w : ◌≡◌ {A = ℕ} 0 1 = cc in omega arith

-- a shape beside its stops, as the code keeps them: those that it reads, or none
module _ (shape : Shape) (b : Bool) where
  pub stops-got : {t : StopList} (items : List (List ℕ)) → Some t ≡ list_in (two_stops_of cut items) → Some (record { shape = shape; repeating = b; list = t }) ≡ draft_of (with_stops cut shape b items)
  unfolding with_stops
  stops-got {t} items e = go (two_stops_of cut items) e
    where
      go : (r : Read (List Stop)) → Some t ≡ list_in r → Some (record { shape = shape; repeating = b; list = t }) ≡ draft_of (r >>= λ ss _. got (written shape b ss) [])
      go (got ss k) h = ap (option_map (λ (l : StopList). record { shape = shape; repeating = b; list = l })) h
      go refused h = absurd (some-none h)

  pub stops-none : (items : List (List ℕ)) → None ≡ list_in (two_stops_of cut items) → None ≡ draft_of (with_stops cut shape b items)
  unfolding with_stops
  stops-none items e = go (two_stops_of cut items) e
    where
      go : (r : Read (List Stop)) → None ≡ list_in r → None ≡ draft_of (r >>= λ ss _. got (written shape b ss) [])
      go (got ss k) h = absurd (some-none (sym h))
      go refused h = refl

-- no items are no stops
pub no-items : (shape : Shape) (b : Bool) → None ≡ draft_of (with_stops cut shape b [])
unfolding with_stops two_stops_of stops_of
no-items shape b = refl

-- the items of a body: the first, and those after it
module _ (b : Bool) (l : List ℕ) {i : List ℕ} {more : List (List ℕ)} (split : items_of l ≡ i ∷ more) where
  pub linear-got : {d : Direction} → got d [] ≡ whole_of (direction_of cut) i → draft_of (with_stops cut (Sh.Linear d) b more) ≡ draft_of (linear_of cut b l)
  unfolding linear_of
  linear-got {d} e = rw (split, ← e)

  pub linear-none : refused ≡ whole_of (direction_of cut) i → draft_of (with_stops cut (Sh.Linear (D.Side S.Bottom)) b (items_of l)) ≡ draft_of (linear_of cut b l)
  unfolding linear_of
  linear-none e = ap (λ (q : Read Direction). draft_of (by_direction cut q b (items_of l))) (e ∙ ap (λ (x : List (List ℕ)). whole_of (direction_of cut) (first x)) (sym split))

  pub circular-got : {shape : Shape} → got shape [] ≡ whole_of (radial_of cut) i → draft_of (with_stops cut shape b more) ≡ draft_of (circular_of cut b l)
  unfolding circular_of
  circular-got {shape} e = rw (split, ← e)

  pub circular-none : refused ≡ whole_of (radial_of cut) i → None ≡ draft_of (circular_of cut b l)
  unfolding circular_of
  circular-none e = rw (split, ← e)
