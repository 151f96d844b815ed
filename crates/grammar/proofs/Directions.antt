-- The definition of reading directions is the grammar's. Assumes nothing.
use mathlib.Core.Path.{◌≡◌, refl}
use mathlib.Core.List.{List, [], ◌++◌, append_assoc, append-nil}
use Prim.Native.Nat.{ℕ, ◌<◌}
use native.Mathlib.Omega.{arith}
use lib.IntN.{ℤ}
use Rattle.text.specs.Text.{lower, peek_of, keyword_of, Read, got, refused, ◌>>=◌, ◌or_read◌}
use Rattle.text.proofs.Laws.{bind-got, bind-refused, or-first, or-second}
use Rattle.gradient.specs.declared.Side.{Side}
use Rattle.gradient.specs.declared.Vertical.{Vertical}
use Rattle.gradient.specs.declared.Vertical.TheVariants as Ver
use Rattle.gradient.specs.declared.Horizontal.{Horizontal}
use Rattle.gradient.specs.declared.Horizontal.TheVariants as Hor
use Rattle.gradient.specs.declared.Direction.{Direction}
use Rattle.gradient.specs.declared.Direction.TheVariants as D
use Rattle.tokens.specs.declared.Unit.{Unit}
use Rattle.tokens.specs.declared.Unit.TheVariants as U
use Rattle.tokens.specs.declared.Number.{Number}
use Rattle.tokens.specs.Number.{exact}
use Rattle.tokens.specs.Color.{begins}
use Rattle.directions.specs.Direction.{side_across, side_down, horizontal_of, vertical_of, horizontal_first, vertical_first, to_of, as_angle, angle_of, direction_of}
use Rattle.stoplist.specs.View.{not_comma}
use Rattle.grammar.specs.Words.{Every, Gap, Space, Word, OneOf, one}
use Rattle.grammar.specs.Directions.{SideWord, HorizontalWord, VerticalWord, DirectionText}
use Rattle.grammar.proofs.Laws.{Is, Reads, some, nothing, reads-or, reads_as, reads-map, reads_then, After, after, reads-after, reads_word, reads-for, space-ends, after-reads, after-blank, word-reads, unlike, word-high, not-letter, every_append, gap-plain, word-plain}
use Rattle.grammar.proofs.Numbers.{Numbered, NumberText, reads-number, number-reads, number-first, number-plain}

-- ---- a direction as reading takes it apart: `to`, and what follows it
data Toward : List ℕ → Direction → Type 0 where
  side : {l : List ℕ} {s : Side} → OneOf SideWord l s → Toward l (D.Side s)
  horizontal-first : {l g m : List ℕ} {a : Horizontal} {v : Vertical} → OneOf HorizontalWord l a → Gap g → OneOf VerticalWord m v
      → Toward (l ++ (g ++ m)) (D.Corner v a)
  vertical-first : {l g m : List ℕ} {a : Horizontal} {v : Vertical} → OneOf VerticalWord l v → Gap g → OneOf HorizontalWord m a
      → Toward (l ++ (g ++ m)) (D.Corner v a)

data Parts : List ℕ → Direction → Type 0 where
  to : {l g m : List ℕ} {d : Direction} → Word "to" l → Gap g → Toward m d → Parts (l ++ (g ++ m)) d
  angle : {l : List ℕ} {z : ℤ} → NumberText U.Angle l z → Parts l (D.Angle z)

together : {l : List ℕ} {d : Direction} → Parts l d → DirectionText l d
together (to w g (Toward.side s)) = DirectionText.side w g s
together (to w g (Toward.horizontal-first a h v)) = DirectionText.horizontal-first w g a h v
together (to w g (Toward.vertical-first v h a)) = DirectionText.vertical-first w g v h a
together (angle (NumberText.angle n)) = DirectionText.angle n

apart : {l : List ℕ} {d : Direction} → DirectionText l d → Parts l d
apart (DirectionText.side w g s) = to w g (Toward.side s)
apart (DirectionText.horizontal-first w g a h v) = to w g (Toward.horizontal-first a h v)
apart (DirectionText.vertical-first w g v h a) = to w g (Toward.vertical-first v h a)
apart (DirectionText.angle n) = angle (NumberText.angle n)

-- ---- sound
pub reads-horizontal : (l : List ℕ) → Reads (OneOf HorizontalWord) l (horizontal_of l)
unfolding horizontal_of
reads-horizontal l =
    reads-or (reads-for (OneOf HorizontalWord) "left" Hor.Left refl (λ _ w. one HorizontalWord.left w) l)
    (reads-for (OneOf HorizontalWord) "right" Hor.Right refl (λ _ w. one HorizontalWord.right w) l)

pub reads-vertical : (l : List ℕ) → Reads (OneOf VerticalWord) l (vertical_of l)
unfolding vertical_of
reads-vertical l =
    reads-or (reads-for (OneOf VerticalWord) "top" Ver.Top refl (λ _ w. one VerticalWord.top w) l)
    (reads-for (OneOf VerticalWord) "bottom" Ver.Bottom refl (λ _ w. one VerticalWord.bottom w) l)

horizontal-side : {l : List ℕ} {a : Horizontal} → OneOf HorizontalWord l a → OneOf SideWord l (side_across a)
horizontal-side (one HorizontalWord.left w) = one SideWord.left w
horizontal-side (one HorizontalWord.right w) = one SideWord.right w

vertical-side : {l : List ℕ} {v : Vertical} → OneOf VerticalWord l v → OneOf SideWord l (side_down v)
vertical-side (one VerticalWord.top w) = one SideWord.top w
vertical-side (one VerticalWord.bottom w) = one SideWord.bottom w

reads-toward : (l : List ℕ) → Reads Toward l (horizontal_first l or_read vertical_first l)
unfolding horizontal_first vertical_first
reads-toward l =
    reads-or
    (reads_then Toward _ (λ a w h m.
    reads-or (reads-map (λ x d. Toward (w ++ x) d) (λ v. D.Corner v a) (λ v x q. across h q)
    (reads-after (OneOf VerticalWord) vertical_of reads-vertical m))
    (some {a = D.Side (side_across a)} [] (rw (append-nil w) (Toward.side (horizontal-side h))) refl)) (reads-horizontal l))
    (reads_then Toward _ (λ v w h m.
    reads-or (reads-map (λ x d. Toward (w ++ x) d) (λ a. D.Corner v a) (λ a x q. down h q)
    (reads-after (OneOf HorizontalWord) horizontal_of reads-horizontal m))
    (some {a = D.Side (side_down v)} [] (rw (append-nil w) (Toward.side (vertical-side h))) refl)) (reads-vertical l))
  where
    across : {w x : List ℕ} {a : Horizontal} {v : Vertical} → OneOf HorizontalWord w a → After (OneOf VerticalWord) x v → Toward (w ++ x) (D.Corner v a)
    across h (after g q) = Toward.horizontal-first h g q

    down : {w x : List ℕ} {a : Horizontal} {v : Vertical} → OneOf VerticalWord w v → After (OneOf HorizontalWord) x a → Toward (w ++ x) (D.Corner v a)
    down h (after g q) = Toward.vertical-first h g q

as-angle : {l : List ℕ} {r : Read Number} → Reads Numbered l r → Reads Parts l (r >>= λ n k. as_angle n.value n.unit k)
as-angle {l} (some {a = n} {k} w h e) = go n.unit n.value h
  where
    go : (u : Unit) (z : ℤ) → NumberText u w z → Reads Parts l (as_angle z u k)
    go U.Length z q = nothing
    go U.Percentage z q = nothing
    go U.Angle z q = some w (angle q) e
as-angle nothing = nothing

pub reads-direction : (l : List ℕ) → Reads DirectionText l (direction_of exact l)
unfolding direction_of to_of angle_of
reads-direction l =
    reads_as DirectionText (λ d w h. together h)
    (reads-or
    (reads_then Parts _ (λ _ w h m. reads_as (λ v d. Parts (w ++ v) d) (λ d v q. then-toward h q)
    (reads-after Toward (λ m. horizontal_first m or_read vertical_first m) reads-toward m))
    (reads_word "to" refl l))
    (as-angle (reads-number l)))
  where
    then-toward : {w v : List ℕ} {d : Direction} → Word "to" w → After Toward v d → Parts (w ++ v) d
    then-toward h (after g q) = to h g q

-- ---- complete
pub horizontal-reads : {w : List ℕ} {a : Horizontal} (k : List ℕ) → OneOf HorizontalWord w a → got a k ≡ horizontal_of (w ++ k)
unfolding horizontal_of begins
horizontal-reads k (one HorizontalWord.left w) = or-first _ (bind-got _ (word-reads k refl w) refl)
horizontal-reads k (one HorizontalWord.right w) = or-second (bind-refused _ (unlike "left" k refl w)) (bind-got _ (word-reads k refl w) refl)

pub vertical-reads : {w : List ℕ} {v : Vertical} (k : List ℕ) → OneOf VerticalWord w v → got v k ≡ vertical_of (w ++ k)
unfolding vertical_of begins
vertical-reads k (one VerticalWord.top w) = or-first _ (bind-got _ (word-reads k refl w) refl)
vertical-reads k (one VerticalWord.bottom w) = or-second (bind-refused _ (unlike "top" k refl w)) (bind-got _ (word-reads k refl w) refl)

-- a vertical word is not a horizontal one
pub vertical-not : {w : List ℕ} {v : Vertical} (k : List ℕ) → OneOf VerticalWord w v → refused ≡ horizontal_of (w ++ k)
unfolding horizontal_of begins
vertical-not k (one VerticalWord.top w) = or-second (bind-refused _ (unlike "left" k refl w)) (bind-refused _ (unlike "right" k refl w))
vertical-not k (one VerticalWord.bottom w) = or-second (bind-refused _ (unlike "left" k refl w)) (bind-refused _ (unlike "right" k refl w))

pub horizontal-high : {w : List ℕ} {a : Horizontal} (k : List ℕ) → OneOf HorizontalWord w a → 57 < peek_of (w ++ k)
horizontal-high k (one HorizontalWord.left w) = word-high k refl w
horizontal-high k (one HorizontalWord.right w) = word-high k refl w

pub vertical-high : {w : List ℕ} {v : Vertical} (k : List ℕ) → OneOf VerticalWord w v → 57 < peek_of (w ++ k)
vertical-high k (one VerticalWord.top w) = word-high k refl w
vertical-high k (one VerticalWord.bottom w) = word-high k refl w

no-horizontal : refused ≡ horizontal_of []
unfolding horizontal_of keyword_of peek_of lower
no-horizontal = refl

no-vertical : refused ≡ vertical_of []
unfolding vertical_of keyword_of peek_of lower
no-vertical = refl

module _ {k : List ℕ} (h : Space k) where
  horizontal-alone : {w : List ℕ} {a : Horizontal} → OneOf HorizontalWord w a
      → got (D.Side (side_across a)) k ≡ (horizontal_first (w ++ k) or_read vertical_first (w ++ k))
  unfolding horizontal_first vertical_first
  horizontal-alone a = or-first _ (bind-got _ (horizontal-reads k a) (or-second (bind-refused _ (after-blank vertical_of h no-vertical)) refl))

  vertical-alone : {w : List ℕ} {v : Vertical} → OneOf VerticalWord w v
      → got (D.Side (side_down v)) k ≡ (horizontal_first (w ++ k) or_read vertical_first (w ++ k))
  unfolding horizontal_first vertical_first
  vertical-alone v =
      or-second (bind-refused _ (vertical-not k v)) (bind-got _ (vertical-reads k v)
      (or-second (bind-refused _ (after-blank horizontal_of h no-horizontal)) refl))

  toward-reads : {w : List ℕ} {d : Direction} → Toward w d → got d k ≡ (horizontal_first (w ++ k) or_read vertical_first (w ++ k))
  unfolding horizontal_first vertical_first
  toward-reads (Toward.side (one SideWord.left w)) = horizontal-alone (one HorizontalWord.left w)
  toward-reads (Toward.side (one SideWord.right w)) = horizontal-alone (one HorizontalWord.right w)
  toward-reads (Toward.side (one SideWord.top w)) = vertical-alone (one VerticalWord.top w)
  toward-reads (Toward.side (one SideWord.bottom w)) = vertical-alone (one VerticalWord.bottom w)
  toward-reads (Toward.horizontal-first {l} {g} {m} a s v) =
      let f = vertical-high k v in
      rw (append_assoc l (g ++ m) k, append_assoc g m k)
      (or-first _ (bind-got _ (horizontal-reads (g ++ (m ++ k)) a)
      (or-first _ (bind-got _ (after-reads vertical_of (m ++ k) k s (omega arith) (vertical-reads k v)) refl))))
  toward-reads (Toward.vertical-first {l} {g} {m} v s a) =
      let f = horizontal-high k a in
      rw (append_assoc l (g ++ m) k, append_assoc g m k)
      (or-second (bind-refused _ (vertical-not (g ++ (m ++ k)) v))
      (bind-got _ (vertical-reads (g ++ (m ++ k)) v) (or-first _
      (bind-got _ (after-reads horizontal_of (m ++ k) k s (omega arith) (horizontal-reads k a)) refl))))

toward-first : {w : List ℕ} {d : Direction} (k : List ℕ) → Toward w d → 57 < peek_of (w ++ k)
toward-first k (Toward.side (one SideWord.left w)) = word-high k refl w
toward-first k (Toward.side (one SideWord.right w)) = word-high k refl w
toward-first k (Toward.side (one SideWord.top w)) = word-high k refl w
toward-first k (Toward.side (one SideWord.bottom w)) = word-high k refl w
toward-first k (Toward.horizontal-first {l} {g} {m} a s v) = rw (append_assoc l (g ++ m) k) (horizontal-high ((g ++ m) ++ k) a)
toward-first k (Toward.vertical-first {l} {g} {m} v s a) = rw (append_assoc l (g ++ m) k) (vertical-high ((g ++ m) ++ k) v)

parts-read : {w k : List ℕ} {d : Direction} → Space k → Parts w d → got d k ≡ direction_of exact (w ++ k)
unfolding direction_of to_of angle_of
parts-read {k} h (to {l} {g} {m} t s q) =
    let f = toward-first k q in
    rw (append_assoc l (g ++ m) k, append_assoc g m k)
    (or-first _ (bind-got _ (word-reads (g ++ (m ++ k)) refl t)
    (after-reads (λ m. horizontal_first m or_read vertical_first m) (m ++ k) k s (omega arith) (toward-reads h q))))
parts-read {k} h (angle {l} n) =
    or-second (bind-refused _ (not-letter "to" (l ++ k) refl (number-first k n).1)) (bind-got _ (number-reads k (space-ends h) n) refl)

pub direction-reads : {w k : List ℕ} {d : Direction} → Space k → DirectionText w d → got d k ≡ direction_of exact (w ++ k)
direction-reads h d = parts-read h (apart d)

parts_first : {w : List ℕ} {d : Direction} (k : List ℕ) → Parts w d → 32 < peek_of (w ++ k)
parts_first k (to {l} {g} {m} t s q) = rw (append_assoc l (g ++ m) k) (let f = word-high ((g ++ m) ++ k) refl t in omega arith)
parts_first k (angle n) = let f = number-first k n in omega arith

pub direction-first : {w : List ℕ} {d : Direction} (k : List ℕ) → DirectionText w d → 32 < peek_of (w ++ k)
direction-first k d = parts_first k (apart d)

-- ---- no comma
pub horizontal-plain : {w : List ℕ} {a : Horizontal} → OneOf HorizontalWord w a → Every (Is not_comma) w
horizontal-plain (one HorizontalWord.left w) = word-plain refl w
horizontal-plain (one HorizontalWord.right w) = word-plain refl w

pub vertical-plain : {w : List ℕ} {v : Vertical} → OneOf VerticalWord w v → Every (Is not_comma) w
vertical-plain (one VerticalWord.top w) = word-plain refl w
vertical-plain (one VerticalWord.bottom w) = word-plain refl w

toward-plain : {w : List ℕ} {d : Direction} → Toward w d → Every (Is not_comma) w
toward-plain (Toward.side (one SideWord.left w)) = word-plain refl w
toward-plain (Toward.side (one SideWord.right w)) = word-plain refl w
toward-plain (Toward.side (one SideWord.top w)) = word-plain refl w
toward-plain (Toward.side (one SideWord.bottom w)) = word-plain refl w
toward-plain (Toward.horizontal-first a g v) = every_append (horizontal-plain a) (every_append (gap-plain g) (vertical-plain v))
toward-plain (Toward.vertical-first v g a) = every_append (vertical-plain v) (every_append (gap-plain g) (horizontal-plain a))

pub direction-plain : {w : List ℕ} {d : Direction} → DirectionText w d → Every (Is not_comma) w
direction-plain d = go (apart d)
  where
    go : {w : List ℕ} {d : Direction} → Parts w d → Every (Is not_comma) w
    go (to w g q) = every_append (word-plain refl w) (every_append (gap-plain g) (toward-plain q))
    go (angle n) = number-plain n
