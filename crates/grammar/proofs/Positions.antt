-- The definition of reading the position of a circle's center is the grammar's. Assumes nothing.
use mathlib.Core.Path.{◌≡◌, refl}
use mathlib.Core.List.{List, [], ◌++◌, append_assoc, append-nil}
use Prim.Native.Nat.{ℕ, ◌≤◌, ◌<◌}
use native.Mathlib.Omega.{arith}
use lib.IntN.{ℤ}
use Rattle.std.specs.Prelude.{Option, Some, None}
use Rattle.text.specs.Text.{lower, peek_of, keyword_of, Read, got, refused, ◌>>=◌}
use Rattle.text.proofs.Laws.{bind-got, bind-refused, or-first, or-second}
use Rattle.gradient.specs.declared.Vertical.{Vertical}
use Rattle.gradient.specs.declared.Horizontal.{Horizontal}
use Rattle.gradient.specs.declared.Vertical.TheVariants as Ver
use Rattle.gradient.specs.declared.Horizontal.TheVariants as Hor
use Rattle.gradient.specs.declared.Coordinate.{Coordinate}
use Rattle.tokens.specs.declared.Unit.{Unit}
use Rattle.tokens.specs.declared.Unit.TheVariants as U
use Rattle.tokens.specs.declared.Number.{Number}
use Rattle.tokens.specs.Number.{exact}
use Rattle.tokens.specs.Color.{begins}
use Rattle.directions.specs.Direction.{horizontal_of, vertical_of}
use Rattle.circles.specs.declared.Part.{Part}
use Rattle.circles.specs.declared.Part.TheVariants as P
use Rattle.circles.specs.declared.Place.{Place}
use Rattle.circles.specs.Position.{as_coordinate, coordinate_of, part_of, across_at, down_at, as_across, as_down, place, middle, one_part, two_parts, placed, second_of, position_of}
use Rattle.stoplist.specs.View.{not_comma}
use Rattle.grammar.specs.Words.{Every, Gap, Space, Word, OneOf, one}
use Rattle.grammar.specs.Directions.{HorizontalWord, VerticalWord}
use Rattle.grammar.specs.Positions.{Across, Down, AmountText, AcrossText, DownText, PositionText}
use Rattle.grammar.proofs.Laws.{Is, Reads, some, nothing, reads-or, reads_as, reads-map, reads_then, After, after, reads-after, reads-for, gap-low, space-ends, after-reads, after-blank, word-reads, unlike, word-high, not-letter, every_append, gap-plain, word-plain}
use Rattle.grammar.proofs.Numbers.{Numbered, NumberText, reads-number, number-reads, number-first, no_number, number-plain}
use Rattle.grammar.proofs.Directions.{reads-horizontal, reads-vertical, horizontal-reads, vertical-reads, vertical-not, horizontal-high, vertical-high, horizontal-plain, vertical-plain}

-- ---- a part as reading takes it
data PartText : List ℕ → Part → Type 0 where
  across : {l : List ℕ} {a : Horizontal} → OneOf HorizontalWord l a → PartText l (P.Across a)
  down : {l : List ℕ} {v : Vertical} → OneOf VerticalWord l v → PartText l (P.Down v)
  center : {l : List ℕ} → Word "center" l → PartText l P.Center
  at : {l : List ℕ} {c : Coordinate} → AmountText l c → PartText l (P.At c)

-- ---- sound
as-coordinate : {l : List ℕ} {r : Read Number} → Reads Numbered l r → Reads AmountText l (r >>= λ n k. as_coordinate n.value n.unit k)
as-coordinate {l} (some {a = n} {k} w h e) = go n.unit n.value h
  where
    go : (u : Unit) (z : ℤ) → NumberText u w z → Reads AmountText l (as_coordinate z u k)
    go U.Length z (NumberText.length q) = some w (AmountText.length q) e
    go U.Percentage z (NumberText.percentage q) = some w (AmountText.percentage q) e
    go U.Angle z q = nothing
as-coordinate nothing = nothing

reads-part : (l : List ℕ) → Reads PartText l (part_of exact l)
unfolding part_of coordinate_of
reads-part l =
    reads-or (reads-map PartText (λ a. P.Across a) (λ a w h. PartText.across h) (reads-horizontal l))
    (reads-or (reads-map PartText (λ v. P.Down v) (λ v w h. PartText.down h) (reads-vertical l))
    (reads-or (reads-for PartText "center" P.Center refl (λ _ h. PartText.center h) l)
    (reads-map PartText (λ c. P.At c) (λ c w h. PartText.at h) (as-coordinate (reads-number l)))))

-- a keyword of the one axis, and of the other
across-word : {l : List ℕ} {a : Horizontal} → OneOf HorizontalWord l a → OneOf Across l (across_at a)
across-word (one HorizontalWord.left w) = one Across.left w
across-word (one HorizontalWord.right w) = one Across.right w

down_word : {l : List ℕ} {v : Vertical} → OneOf VerticalWord l v → OneOf Down l (down_at v)
down_word (one VerticalWord.top w) = one Down.top w
down_word (one VerticalWord.bottom w) = one Down.bottom w

abbrev Placed : List ℕ → Place → Type 0
Placed l p = PositionText l (p.x, p.y)

alone : {w : List ℕ} {a : Part} → PartText w a → Placed w (one_part a)
alone (PartText.across h) = PositionText.horizontal (AcrossText.keyword (across-word h))
alone (PartText.down h) = PositionText.vertical (down_word h)
alone (PartText.center h) = PositionText.horizontal (AcrossText.keyword (one Across.center h))
alone (PartText.at h) = PositionText.horizontal (AcrossText.amount h)

-- two parts are a position of the grammar, where they are one
data Judged (l : List ℕ) : Option Place → Type 0 where
  position : {p : Place} → Placed l p → Judged l (Some p)
  neither : Judged l None

judged : {w g v : List ℕ} {a b : Part} → PartText w a → Gap g → PartText v b → Judged (w ++ (g ++ v)) (two_parts a b)
judged (PartText.across x) g (PartText.across y) = neither
judged (PartText.across x) g (PartText.down y) = position (PositionText.both (AcrossText.keyword (across-word x)) g (DownText.keyword (down_word y)))
judged (PartText.across x) g (PartText.center y) =
    position (PositionText.both (AcrossText.keyword (across-word x)) g (DownText.keyword (one Down.center y)))
judged (PartText.across x) g (PartText.at y) = position (PositionText.both (AcrossText.keyword (across-word x)) g (DownText.amount y))
judged (PartText.down x) g (PartText.across y) = position (PositionText.turned (down_word x) g (across-word y))
judged (PartText.down x) g (PartText.down y) = neither
judged (PartText.down x) g (PartText.center y) = position (PositionText.turned (down_word x) g (one Across.center y))
judged (PartText.down x) g (PartText.at y) = neither
judged (PartText.center x) g (PartText.across y) = position (PositionText.turned (one Down.center x) g (across-word y))
judged (PartText.center x) g (PartText.down y) =
    position (PositionText.both (AcrossText.keyword (one Across.center x)) g (DownText.keyword (down_word y)))
judged (PartText.center x) g (PartText.center y) =
    position (PositionText.both (AcrossText.keyword (one Across.center x)) g (DownText.keyword (one Down.center y)))
judged (PartText.center x) g (PartText.at y) = position (PositionText.both (AcrossText.keyword (one Across.center x)) g (DownText.amount y))
judged (PartText.at x) g (PartText.across y) = neither
judged (PartText.at x) g (PartText.down y) = position (PositionText.both (AcrossText.amount x) g (DownText.keyword (down_word y)))
judged (PartText.at x) g (PartText.center y) = position (PositionText.both (AcrossText.amount x) g (DownText.keyword (one Down.center y)))
judged (PartText.at x) g (PartText.at y) = position (PositionText.both (AcrossText.amount x) g (DownText.amount y))

-- a second part b behind the first, a, with what the two are
data Second (a : Part) : List ℕ → Place → Type 0 where
  second : {l : List ℕ} {b : Part} {p : Place} → PartText l b → two_parts a b ≡ Some p → Second a l p

as-second : {l : List ℕ} {a : Part} {r : Read Part} → Reads PartText l r → Reads (Second a) l (r >>= λ b e. placed (two_parts a b) e)
as-second {l} {a} (some {a = b} {k} v q e) = go (two_parts a b) refl
  where
    go : (t : Option Place) → two_parts a b ≡ t → Reads (Second a) l (placed t k)
    go (Some p) h = some v (second q h) e
    go None h = nothing
as-second nothing = nothing

pub reads-position : (l : List ℕ) → Reads Placed l (position_of exact l)
unfolding position_of second_of
reads-position l =
    reads_then Placed _ (λ a w h m.
    reads-or (reads_as (λ v p. Placed (w ++ v) p) (λ p v q. joined h q)
    (reads-after (Second a) (λ k. part_of exact k >>= λ b e. placed (two_parts a b) e) (λ k. as-second (reads-part k)) m))
    (some {a = one_part a} [] (rw (append-nil w) (alone h)) refl))
    (reads-part l)
  where
    is-position : {l : List ℕ} {t : Option Place} {p : Place} → t ≡ Some p → Judged l t → Placed l p
    is-position {p = r} e (position {p} q) = let z : p ≡ r = cc in rw z at q
    is-position e neither = absurd (let z : ◌≡◌ {A = ℕ} 0 1 = cc in omega arith)

    joined : {w v : List ℕ} {a : Part} {p : Place} → PartText w a → After (Second a) v p → Placed (w ++ v) p
    joined h (after g (second q e)) = is-position e (judged h g q)

-- ---- complete
amount-reads : {w : List ℕ} {c : Coordinate} (k : List ℕ) → peek_of k ≤ 32 → AmountText w c → got c k ≡ coordinate_of exact (w ++ k)
unfolding coordinate_of
amount-reads k h (AmountText.length n) = bind-got _ (number-reads k h (NumberText.length n)) refl
amount-reads k h (AmountText.percentage n) = bind-got _ (number-reads k h (NumberText.percentage n)) refl

amount-first : {w : List ℕ} {c : Coordinate} (k : List ℕ) → AmountText w c → (42 < peek_of (w ++ k)) × (peek_of (w ++ k) < 58)
amount-first k (AmountText.length n) = number-first k (NumberText.length n)
amount-first k (AmountText.percentage n) = number-first k (NumberText.percentage n)

part-reads : {w : List ℕ} {a : Part} (k : List ℕ) → peek_of k ≤ 32 → PartText w a → got a k ≡ part_of exact (w ++ k)
unfolding part_of horizontal_of vertical_of begins
part-reads k h (PartText.across a) = or-first _ (bind-got _ (horizontal-reads k a) refl)
part-reads k h (PartText.down v) = or-second (bind-refused _ (vertical-not k v)) (or-first _ (bind-got _ (vertical-reads k v) refl))
part-reads k h (PartText.center w) =
    or-second (bind-refused _ (or-second (bind-refused _ (unlike "left" k refl w)) (bind-refused _ (unlike "right" k refl w))))
    (or-second (bind-refused _ (or-second (bind-refused _ (unlike "top" k refl w)) (bind-refused _ (unlike "bottom" k refl w))))
    (or-first _ (bind-got _ (word-reads k refl w) refl)))
part-reads k h (PartText.at {l} c) =
    let f = (amount-first k c).1 in
    or-second (bind-refused _ (or-second (bind-refused _ (not-letter "left" (l ++ k) refl f)) (bind-refused _ (not-letter "right" (l ++ k) refl f))))
    (or-second (bind-refused _ (or-second (bind-refused _ (not-letter "top" (l ++ k) refl f)) (bind-refused _ (not-letter "bottom" (l ++ k) refl f))))
    (or-second (bind-refused _ (not-letter "center" (l ++ k) refl f)) (bind-got _ (amount-reads k h c) refl)))

part-first : {w : List ℕ} {a : Part} (k : List ℕ) → PartText w a → 32 < peek_of (w ++ k)
part-first k (PartText.across a) = let f = horizontal-high k a in omega arith
part-first k (PartText.down v) = let f = vertical-high k v in omega arith
part-first k (PartText.center w) = let f = word-high k refl w in omega arith
part-first k (PartText.at c) = let f = amount-first k c in omega arith

no_part : refused ≡ part_of exact []
unfolding part_of coordinate_of horizontal_of vertical_of keyword_of peek_of lower
no_part = bind-refused _ (bind-refused _ no_number)

-- a position of the grammar as reading takes it: one part, or two
data Read-as : List ℕ → Place → Type 0 where
  one-part : {l : List ℕ} {a : Part} → PartText l a → Read-as l (one_part a)
  two-parts : {l g m : List ℕ} {a b : Part} {p : Place} → PartText l a → Gap g → PartText m b → two_parts a b ≡ Some p → Read-as (l ++ (g ++ m)) p

-- a horizontal part, a vertical one, and keywords of either axis
record HorizontalPart (l : List ℕ) (x : Coordinate) : Type 0 where
  part : Part
  text : PartText l part
  is : as_across part ≡ Some x
  alone : one_part part ≡ place x middle

record VerticalPart (l : List ℕ) (y : Coordinate) : Type 0 where
  part : Part
  text : PartText l part
  is : as_down part ≡ Some y

horizontal-part : {l : List ℕ} {x : Coordinate} → AcrossText l x → HorizontalPart l x
horizontal-part (AcrossText.keyword (one Across.left w)) =
    record { part = P.Across Hor.Left; text = PartText.across (one HorizontalWord.left w); is = refl; alone = refl }
horizontal-part (AcrossText.keyword (one Across.center w)) = record { part = P.Center; text = PartText.center w; is = refl; alone = refl }
horizontal-part (AcrossText.keyword (one Across.right w)) =
    record { part = P.Across Hor.Right; text = PartText.across (one HorizontalWord.right w); is = refl; alone = refl }
horizontal-part (AcrossText.amount {c} h) = record { part = P.At c; text = PartText.at h; is = refl; alone = refl }

vertical-part : {l : List ℕ} {y : Coordinate} → DownText l y → VerticalPart l y
vertical-part (DownText.keyword (one Down.top w)) = record { part = P.Down Ver.Top; text = PartText.down (one VerticalWord.top w); is = refl }
vertical-part (DownText.keyword (one Down.center w)) = record { part = P.Center; text = PartText.center w; is = refl }
vertical-part (DownText.keyword (one Down.bottom w)) = record { part = P.Down Ver.Bottom; text = PartText.down (one VerticalWord.bottom w); is = refl }
vertical-part (DownText.amount {c} h) = record { part = P.At c; text = PartText.at h; is = refl }

in_order : (a b : Part) {x y : Coordinate} → as_across a ≡ Some x → as_down b ≡ Some y → two_parts a b ≡ Some (place x y)
in_order a b p q = rw (p, q)

read_as : {l : List ℕ} {p : Coordinate × Coordinate} → PositionText l p → Read-as l (place p.0 p.1)
read_as (PositionText.horizontal h) = let x = horizontal-part h in rw x.alone at (one-part x.text)
read_as (PositionText.vertical (one Down.top w)) = one-part (PartText.down (one VerticalWord.top w))
read_as (PositionText.vertical (one Down.center w)) = one-part (PartText.center w)
read_as (PositionText.vertical (one Down.bottom w)) = one-part (PartText.down (one VerticalWord.bottom w))
read_as (PositionText.both h g v) =
    let x = horizontal-part h in let y = vertical-part v in two-parts x.text g y.text (in_order x.part y.part x.is y.is)
read_as (PositionText.turned (one Down.top v) g (one Across.left w)) =
    two-parts (PartText.down (one VerticalWord.top v)) g (PartText.across (one HorizontalWord.left w)) refl
read_as (PositionText.turned (one Down.top v) g (one Across.center w)) = two-parts (PartText.down (one VerticalWord.top v)) g (PartText.center w) refl
read_as (PositionText.turned (one Down.top v) g (one Across.right w)) =
    two-parts (PartText.down (one VerticalWord.top v)) g (PartText.across (one HorizontalWord.right w)) refl
read_as (PositionText.turned (one Down.center v) g (one Across.left w)) =
    two-parts (PartText.center v) g (PartText.across (one HorizontalWord.left w)) refl
read_as (PositionText.turned (one Down.center v) g (one Across.center w)) = two-parts (PartText.center v) g (PartText.center w) refl
read_as (PositionText.turned (one Down.center v) g (one Across.right w)) =
    two-parts (PartText.center v) g (PartText.across (one HorizontalWord.right w)) refl
read_as (PositionText.turned (one Down.bottom v) g (one Across.left w)) =
    two-parts (PartText.down (one VerticalWord.bottom v)) g (PartText.across (one HorizontalWord.left w)) refl
read_as (PositionText.turned (one Down.bottom v) g (one Across.center w)) =
    two-parts (PartText.down (one VerticalWord.bottom v)) g (PartText.center w) refl
read_as (PositionText.turned (one Down.bottom v) g (one Across.right w)) =
    two-parts (PartText.down (one VerticalWord.bottom v)) g (PartText.across (one HorizontalWord.right w)) refl

pub position-reads : {w k : List ℕ} {p : Coordinate × Coordinate} → Space k → PositionText w p → got (place p.0 p.1) k ≡ position_of exact (w ++ k)
unfolding position_of second_of
position-reads {w} {k} {p} h q = go (read_as q)
  where
    go : {w : List ℕ} {p : Place} → Read-as w p → got p k ≡ position_of exact (w ++ k)
    go (one-part {a} q) = bind-got _ (part-reads k (space-ends h) q) (or-second (after-blank (second_of exact a) h (bind-refused _ no_part)) refl)
    go (two-parts {l} {g} {m} {a} {b} q s r e) =
        rw (append_assoc l (g ++ m) k, append_assoc g m k)
        (bind-got _ (part-reads (g ++ (m ++ k)) (gap-low (m ++ k) s) q)
        (or-first _ (after-reads (second_of exact a) (m ++ k) k s (part-first k r) (bind-got _ (part-reads k (space-ends h) r) (rw e)))))

pub position_first : {w : List ℕ} {p : Coordinate × Coordinate} (k : List ℕ) → PositionText w p → 32 < peek_of (w ++ k)
position_first k q = go (read_as q)
  where
    go : {w : List ℕ} {p : Place} → Read-as w p → 32 < peek_of (w ++ k)
    go (one-part q) = part-first k q
    go (two-parts {l} {g} {m} q s r e) = rw (append_assoc l (g ++ m) k) (part-first ((g ++ m) ++ k) q)

-- ---- no comma
part-plain : {w : List ℕ} {a : Part} → PartText w a → Every (Is not_comma) w
part-plain (PartText.across a) = horizontal-plain a
part-plain (PartText.down v) = vertical-plain v
part-plain (PartText.center w) = word-plain refl w
part-plain (PartText.at (AmountText.length n)) = number-plain (NumberText.length n)
part-plain (PartText.at (AmountText.percentage n)) = number-plain (NumberText.percentage n)

pub position-plain : {w : List ℕ} {p : Coordinate × Coordinate} → PositionText w p → Every (Is not_comma) w
position-plain q = go (read_as q)
  where
    go : {w : List ℕ} {p : Place} → Read-as w p → Every (Is not_comma) w
    go (one-part q) = part-plain q
    go (two-parts q g r e) = every_append (part-plain q) (every_append (gap-plain g) (part-plain r))
