-- The code's circle is the paper's with its numbers cut off.
-- Assumes nothing.
use mathlib.Core.Path.{◌≡◌, refl, sym, ap}
use mathlib.Core.Bool.{Bool, true, false, cond, ◌&&◌}
use mathlib.Core.List.{List}
use Prim.Native.Nat.{ℕ}
use lib.IntN.{ℤ}
use Rattle.std.specs.Prelude.{Option, Some, None}
use Rattle.gradient.specs.Range.{coordinate_in, size_in, shape_in}
use Rattle.gradient.specs.declared.Vertical.TheVariants as Ver
use Rattle.gradient.specs.declared.Horizontal.TheVariants as Hor
use Rattle.gradient.specs.declared.Coordinate.{Coordinate}
use Rattle.gradient.specs.declared.Coordinate.TheVariants as C
use Rattle.gradient.specs.declared.Size.{Size}
use Rattle.gradient.specs.declared.Size.TheVariants as Z
use Rattle.gradient.specs.declared.Shape.{Shape}
use Rattle.gradient.specs.declared.Shape.TheVariants as Sh
use Rattle.gradient.proofs.Laws.{linear-range, circle-range}
use Rattle.text.specs.Text.{bytes, got, ◌or_read◌, map_read, keyword_of, after_gap}
use Rattle.text.proofs.Laws.{map-bind, map-inside, map-or, bind-map}
use Rattle.tokens.specs.declared.Unit.{Unit}
use Rattle.tokens.specs.declared.Unit.TheVariants as U
use Rattle.tokens.specs.Number.{exact}
use Rattle.tokens.specs.Cut.{cut}
use Rattle.tokens.proofs.Cut.{length_cut, radius-cut, percentage-cut, length-kept, radius-kept, percentage-kept}
use Rattle.directions.specs.Direction.{horizontal_of, vertical_of}
use Rattle.text.proofs.WholeTexts.{map-gap}
use Rattle.directions.proofs.Cut.{as-cut, cut_direction, direction-in-cut, direction-kept}
use Rattle.circles.specs.declared.Part.{Part}
use Rattle.circles.specs.declared.Part.TheVariants as P
use Rattle.circles.specs.declared.Place.{Place}
use Rattle.circles.specs.Position.{as_coordinate, coordinate_of, part_of, middle, as_across, as_down, is_keyword, place, one_part, paired, or_pair, two_parts, placed, second_of, position_of}
use Rattle.circles.specs.Circle.{extent_of, as_length, length_of, size_of, circle_first, size_first, circle_of, at_of, radial_of}

-- ---- the position of a center
abbrev pub cut_coordinate : Coordinate → Coordinate
cut_coordinate (C.Length z) = C.Length (cut z)
cut_coordinate (C.Percentage z) = C.Percentage (cut z)

abbrev cut_part : Part → Part
cut_part (P.Across a) = P.Across a
cut_part (P.Down v) = P.Down v
cut_part P.Center = P.Center
cut_part (P.At c) = P.At (cut_coordinate c)

abbrev cut_axis : Option Coordinate → Option Coordinate
cut_axis (Some c) = Some (cut_coordinate c)
cut_axis None = None

abbrev pub cut_place : Place → Place
cut_place p = place (cut_coordinate p.x) (cut_coordinate p.y)

abbrev cut_pair : Option Place → Option Place
cut_pair (Some p) = Some (cut_place p)
cut_pair None = None

coordinate-of-cut : (l : List ℕ) → coordinate_of cut l ≡ map_read cut_coordinate (coordinate_of exact l)
unfolding coordinate_of
coordinate-of-cut l = as-cut cut_coordinate as_coordinate by-unit l
  where
    by-unit : (z : ℤ) (u : Unit) (l : List ℕ) → map_read cut_coordinate (as_coordinate z u l) ≡ as_coordinate (cut z) u l
    by-unit z U.Length l = refl
    by-unit z U.Percentage l = refl
    by-unit z U.Angle l = refl

part-of-cut : (l : List ℕ) → part_of cut l ≡ map_read cut_part (part_of exact l)
unfolding part_of
part-of-cut l =
    rw (
      coordinate-of-cut l,
      bind-map,
      map-or,
      map-or,
      map-or,
      map-inside cut_part _ _ (λ a k. refl) (horizontal_of l),
      map-inside cut_part _ _ (λ v k. refl) (vertical_of l),
      map-inside cut_part _ _ (λ _ k. refl) (keyword_of (bytes "center") l),
      map-inside cut_part _ _ (λ c k. refl) (coordinate_of exact l),
    )

-- the percentages that keywords stand for are kept
across-cut : (p : Part) → as_across (cut_part p) ≡ cut_axis (as_across p)
unfolding cut
across-cut (P.Across Hor.Left) = refl
across-cut (P.Across Hor.Right) = refl
across-cut (P.Down v) = refl
across-cut P.Center = refl
across-cut (P.At c) = refl

down-cut : (p : Part) → as_down (cut_part p) ≡ cut_axis (as_down p)
unfolding cut
down-cut (P.Across a) = refl
down-cut (P.Down Ver.Top) = refl
down-cut (P.Down Ver.Bottom) = refl
down-cut P.Center = refl
down-cut (P.At c) = refl

one-cut : (p : Part) → one_part (cut_part p) ≡ cut_place (one_part p)
unfolding cut
one-cut (P.Across Hor.Left) = refl
one-cut (P.Across Hor.Right) = refl
one-cut (P.Down Ver.Top) = refl
one-cut (P.Down Ver.Bottom) = refl
one-cut P.Center = refl
one-cut (P.At c) = refl

keyword-cut : (p : Part) → is_keyword (cut_part p) ≡ is_keyword p
keyword-cut (P.Across a) = refl
keyword-cut (P.Down v) = refl
keyword-cut P.Center = refl
keyword-cut (P.At c) = refl

paired-cut : (x : Option Coordinate) (y : Option Coordinate) → paired (cut_axis x) (cut_axis y) ≡ cut_pair (paired x y)
paired-cut (Some x) (Some y) = refl
paired-cut (Some x) None = refl
paired-cut None y = refl

or-pair-cut : (p : Option Place) (t : Bool) (q : Option Place) → or_pair (cut_pair p) (cond t (cut_pair q) None) ≡ cut_pair (or_pair p (cond t q None))
or-pair-cut (Some p) t q = refl
or-pair-cut None true q = refl
or-pair-cut None false q = refl

two-cut : (a : Part) (b : Part) → two_parts (cut_part a) (cut_part b) ≡ cut_pair (two_parts a b)
two-cut a b =
    rw (across-cut a, down-cut b, paired-cut (as_across a) (as_down b), keyword-cut a, keyword-cut b, across-cut b, down-cut a, paired-cut (as_across b) (as_down a))
    (or-pair-cut (paired (as_across a) (as_down b)) (is_keyword a && is_keyword b) (paired (as_across b) (as_down a)))

placed-cut : (p : Option Place) (l : List ℕ) → map_read cut_place (placed p l) ≡ placed (cut_pair p) l
placed-cut (Some p) l = refl
placed-cut None l = refl

second-of-cut : (a : Part) (l : List ℕ) → map_read cut_place (second_of exact a l) ≡ second_of cut (cut_part a) l
unfolding second_of
second-of-cut a l = rw (part-of-cut l) (map-bind cut_place cut_part _ _ (λ b e. rw (two-cut a b) (placed-cut (two_parts a b) e)) (part_of exact l))

position-cut : (l : List ℕ) → position_of cut l ≡ map_read cut_place (position_of exact l)
unfolding position_of
position-cut l =
    rw (part-of-cut l)
    (sym (map-bind cut_place cut_part _ _ (λ a k. rw (map-or, map-gap cut_place (second_of exact a) (second_of cut (cut_part a)) (second-of-cut a) k, one-cut a)) (part_of exact l)))

-- ---- the size of a circle
abbrev pub cut_size : Size → Size
cut_size (Z.Extent e) = Z.Extent e
cut_size (Z.Length z) = Z.Length (cut z)

length-of-cut : (l : List ℕ) → length_of cut l ≡ map_read cut_size (length_of exact l)
unfolding length_of
length-of-cut l = as-cut cut_size as_length by-unit l
  where
    by-unit : (z : ℤ) (u : Unit) (l : List ℕ) → map_read cut_size (as_length z u l) ≡ as_length (cut z) u l
    by-unit z U.Length l = refl
    by-unit z U.Percentage l = refl
    by-unit z U.Angle l = refl

size-of-cut : (l : List ℕ) → map_read cut_size (size_of exact l) ≡ size_of cut l
unfolding size_of
size-of-cut l = rw (length-of-cut l, map-or, map-inside cut_size _ _ (λ e k. refl) (extent_of l))

circle-first-cut : (l : List ℕ) → map_read cut_size (circle_first exact l) ≡ circle_first cut l
unfolding circle_first
circle-first-cut l = map-inside cut_size _ _ (λ _ k. rw (map-or, map-gap cut_size (size_of exact) (size_of cut) size-of-cut k)) (keyword_of (bytes "circle") l)

size-first-cut : (l : List ℕ) → map_read cut_size (size_first exact l) ≡ size_first cut l
unfolding size_first
size-first-cut l =
    rw (← size-of-cut l)
    (map-bind cut_size cut_size _ _ (λ z k. map-gap cut_size _ _ (λ m. map-inside cut_size _ _ (λ _ e. refl) (keyword_of (bytes "circle") m)) k) (size_of exact l))

circle-of-cut : (l : List ℕ) → circle_of cut l ≡ map_read cut_size (circle_of exact l)
unfolding circle_of
circle-of-cut l = rw (length-of-cut l, map-or, map-or, circle-first-cut l, size-first-cut l)

-- ---- the shape
abbrev pub cut_shape : Shape → Shape
cut_shape (Sh.Linear d) = Sh.Linear (cut_direction d)
cut_shape (Sh.Circle z x y) = Sh.Circle (cut_size z) (cut_coordinate x) (cut_coordinate y)

at_cut : (l : List ℕ) → map_read cut_place (at_of exact l) ≡ at_of cut l
unfolding at_of
at_cut l = map-inside cut_place _ _ (λ _ k. map-gap cut_place (position_of exact) (position_of cut) (λ m. sym (position-cut m)) k) (after_gap (keyword_of (bytes "at")) l)

center-cut : (l : List ℕ) → map_read cut_place (at_of exact l or_read got (place middle middle) l) ≡ (at_of cut l or_read got (place middle middle) l)
unfolding cut
center-cut l = rw (map-or, at_cut l)

pub radial-cut : (l : List ℕ) → radial_of cut l ≡ map_read cut_shape (radial_of exact l)
unfolding radial_of
radial-cut l =
    rw (circle-of-cut l)
    (sym (map-bind cut_shape cut_size _ _ (λ z k. rw (← center-cut k) (map-bind cut_shape cut_place _ _ (λ p e. refl) (at_of exact k or_read got (place middle middle) k))) (circle_of exact l)))

-- the cut changes nothing that a range can tell, and nothing at all in range
coordinate-in-cut : (c : Coordinate) → coordinate_in (cut_coordinate c) ≡ coordinate_in c
coordinate-in-cut (C.Length z) = length_cut z
coordinate-in-cut (C.Percentage z) = percentage-cut z

size-in-cut : (s : Size) → size_in (cut_size s) ≡ size_in s
size-in-cut (Z.Extent e) = refl
size-in-cut (Z.Length z) = radius-cut z

pub shape-in-cut : (s : Shape) → shape_in (cut_shape s) ≡ shape_in s
unfolding shape_in
shape-in-cut (Sh.Linear d) = direction-in-cut d
shape-in-cut (Sh.Circle s x y) = rw (size-in-cut s, coordinate-in-cut x, coordinate-in-cut y)

coordinate-kept : (c : Coordinate) → coordinate_in c ≡ true → cut_coordinate c ≡ c
coordinate-kept (C.Length z) e = ap C.Length (length-kept z e)
coordinate-kept (C.Percentage z) e = ap C.Percentage (percentage-kept z e)

size-kept : (s : Size) → size_in s ≡ true → cut_size s ≡ s
size-kept (Z.Extent e) h = refl
size-kept (Z.Length z) h = ap Z.Length (radius-kept z h)

pub shape-kept : (s : Shape) → shape_in s ≡ true → cut_shape s ≡ s
shape-kept (Sh.Linear d) e = ap Sh.Linear (direction-kept d (linear-range d e))
shape-kept (Sh.Circle s x y) e =
    let k = circle-range s x y e in
    rw (size-kept s k.0, coordinate-kept x k.1, coordinate-kept y k.2)
