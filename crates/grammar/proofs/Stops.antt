-- The definition of reading stops is the grammar's. Assumes nothing.
use mathlib.Core.Path.{◌≡◌, refl}
use mathlib.Core.List.{List, [], ◌∷◌, ◌++◌, append_assoc, append-nil}
use mathlib.Core.Bool.{Bool, true, false, cond}
use Prim.Native.Nat.{ℕ, ◌≤◌, ◌<◌}
use Prim.Native.Char.{code}
use native.Mathlib.Omega.{arith}
use lib.Dec.{ltb}
use lib.ListN.{length}
use lib.IntN.{ℤ}
use borrow.Author.Tests.{eqb-true, le-ltb, ltb-false, not-true}
use Rattle.text.specs.Text.{is, map_read, peek_of, Read, got, refused, ◌>>=◌, whole_of}
use Rattle.text.proofs.Laws.{bind-got, bind-refused, or-first, or-second}
use Rattle.gradient.specs.declared.Color.{Color}
use Rattle.gradient.specs.declared.Position.{Position}
use Rattle.gradient.specs.declared.Position.TheVariants as P
use Rattle.gradient.specs.declared.Stop.{Stop}
use Rattle.tokens.specs.declared.Unit.{Unit}
use Rattle.tokens.specs.declared.Unit.TheVariants as U
use Rattle.tokens.specs.declared.Number.{Number}
use Rattle.tokens.specs.Number.{exact}
use Rattle.stoplist.specs.Stops.{as_position, stop_position_of, stop_of, onto, items_of, stops_of, two_stops_of}
use Rattle.stoplist.specs.View.{not_comma}
use Rattle.directions.specs.Direction.{direction_of, to_of, angle_of}
use Rattle.reader.specs.Text.{first}
use Rattle.grammar.specs.Words.{Every, none, more, Gap, Space, Spaced, spaced}
use Rattle.grammar.specs.Colors.{ColorText}
use Rattle.grammar.specs.Stops.{stop, StopText, StopsText}
use Rattle.grammar.proofs.Laws.{Is, Reads, some, nothing, reads-or, reads_as, reads-map, reads_then, After, after, reads-after, reads_whole, gap-low, space-ends, after-reads, after-blank, whole-reads, whole-refused, Means, means, no, every_append, space-plain, gap-plain}
use Rattle.grammar.proofs.Numbers.{Numbered, NumberText, reads-number, number-reads, number-first, number-plain, no_number}
use Rattle.grammar.proofs.Colors.{NotDirection, color-not, color-plain, reads-color, color-reads, color-first}

-- ---- a stop as reading takes it apart: a color, and perhaps a position
data PositionText : List ℕ → Position → Type 0 where
  at_length : {l : List ℕ} {z : ℤ} → NumberText U.Length l z → PositionText l (P.Length z)
  at-percentage : {l : List ℕ} {z : ℤ} → NumberText U.Percentage l z → PositionText l (P.Percentage z)

data Parts : List ℕ → Stop → Type 0 where
  alone : {l : List ℕ} {v : Color} → ColorText l v → Parts l (stop v P.Auto)
  placed : {l g m : List ℕ} {v : Color} {p : Position} → ColorText l v → Gap g → PositionText m p → Parts (l ++ (g ++ m)) (stop v p)

together : {l : List ℕ} {s : Stop} → Parts l s → StopText l s
together (alone c) = StopText.unplaced c
together (placed c g (PositionText.at_length (NumberText.length n))) = StopText.at_length c g n
together (placed c g (PositionText.at-percentage (NumberText.percentage n))) = StopText.at-percentage c g n

apart : {l : List ℕ} {s : Stop} → StopText l s → Parts l s
apart (StopText.unplaced c) = alone c
apart (StopText.at_length c g n) = placed c g (PositionText.at_length (NumberText.length n))
apart (StopText.at-percentage c g n) = placed c g (PositionText.at-percentage (NumberText.percentage n))

-- ---- sound
as-position : {l : List ℕ} {r : Read Number} → Reads Numbered l r → Reads PositionText l (r >>= λ n k. as_position n.unit n.value k)
as-position {l} (some {a = n} {k} w h e) = go n.unit n.value h
  where
    go : (u : Unit) (z : ℤ) → NumberText u w z → Reads PositionText l (as_position u z k)
    go U.Length z q = some w (PositionText.at_length q) e
    go U.Percentage z q = some w (PositionText.at-percentage q) e
    go U.Angle z q = nothing
as-position nothing = nothing

reads-position : (l : List ℕ) → Reads PositionText l (stop_position_of exact l)
unfolding stop_position_of
reads-position l = as-position (reads-number l)

reads-stop : (l : List ℕ) → Reads StopText l (stop_of exact l)
unfolding stop_of
reads-stop l =
    reads_as StopText (λ s w h. together h)
    (reads_then Parts _ (λ v w h m.
    reads-or (reads-map (λ x s. Parts (w ++ x) s) (λ p. stop v p) (λ p x q. then-position h q)
    (reads-after PositionText (stop_position_of exact) reads-position m))
    (some {a = stop v P.Auto} [] (rw (append-nil w) (alone h)) refl))
    (reads-color l))
  where
    then-position : {w x : List ℕ} {v : Color} {p : Position} → ColorText w v → After PositionText x p → Parts (w ++ x) (stop v p)
    then-position h (after g q) = placed h g q

-- ---- complete
position-reads : {w : List ℕ} {p : Position} (k : List ℕ) → peek_of k ≤ 32 → PositionText w p → got p k ≡ stop_position_of exact (w ++ k)
unfolding stop_position_of
position-reads k h (PositionText.at_length n) = bind-got _ (number-reads k h n) refl
position-reads k h (PositionText.at-percentage n) = bind-got _ (number-reads k h n) refl

position_first : {w : List ℕ} {p : Position} (k : List ℕ) → PositionText w p → 32 < peek_of (w ++ k)
position_first k (PositionText.at_length n) = let h = number-first k n in omega arith
position_first k (PositionText.at-percentage n) = let h = number-first k n in omega arith

no-position : refused ≡ stop_position_of exact []
unfolding stop_position_of
no-position = bind-refused _ no_number

parts-read : {w k : List ℕ} {s : Stop} → Space k → Parts w s → got s k ≡ stop_of exact (w ++ k)
unfolding stop_of
parts-read {k} h (alone c) =
    bind-got _ (color-reads k (space-ends h) c) (or-second (bind-refused _ (after-blank (stop_position_of exact) h no-position)) refl)
parts-read {k} h (placed {l} {g} {m} c a p) =
    rw (append_assoc l (g ++ m) k, append_assoc g m k)
    (bind-got _ (color-reads (g ++ (m ++ k)) (gap-low (m ++ k) a) c)
    (or-first _ (bind-got _ (after-reads (stop_position_of exact) (m ++ k) k a (position_first k p) (position-reads k (space-ends h) p)) refl)))

parts_first : {w : List ℕ} {s : Stop} (k : List ℕ) → Parts w s → 32 < peek_of (w ++ k)
parts_first k (alone c) = color-first k c
parts_first k (placed {l} {g} {m} c a p) = rw (append_assoc l (g ++ m) k) (color-first ((g ++ m) ++ k) c)

stop-first : {w : List ℕ} {s : Stop} (k : List ℕ) → StopText w s → 32 < peek_of (w ++ k)
stop-first k h = parts_first k (apart h)

-- ---- one item
reads-item : (l : List ℕ) → Means (Spaced StopText) l (whole_of (stop_of exact) l)
reads-item l = reads_whole StopText (stop_of exact) reads-stop l

item-reads : {l : List ℕ} {s : Stop} → Spaced StopText l s → got s [] ≡ whole_of (stop_of exact) l
item-reads (spaced {l} {e} a h b) = whole-reads (stop_of exact) l a b (stop-first e h) (parts-read b (apart h))

-- ---- items between commas
pub data Joined : List ℕ → List (List ℕ) → Type 0 where
  one : {i : List ℕ} → Joined i (i ∷ [])
  many : {i m : List ℕ} {is : List (List ℕ)} → Joined m is → Joined (i ++ (code "," ∷ m)) (i ∷ is)

joined-onto : {l : List ℕ} {is : List (List ℕ)} (b : ℕ) → Joined l is → Joined (b ∷ l) (onto b is)
joined-onto b one = one
joined-onto b (many j) = many j

pub joined : (l : List ℕ) → Joined l (items_of l)
unfolding items_of
joined [] = one
joined (b ∷ l) = go (is "," b) refl (joined l)
  where
    go : (t : Bool) → is "," b ≡ t → Joined l (items_of l) → Joined (b ∷ l) (cond t ([] ∷ items_of l) (onto b (items_of l)))
    go true e j = rw (eqb-true b (code ",") e) (many j)
    go false e j = joined-onto b j

pub one-item : {l : List ℕ} → Every (Is not_comma) l → items_of l ≡ l ∷ []
unfolding items_of not_comma
one-item none = refl
one-item (more {b} e t) = rw (not-true (is "," b) e, one-item t)

pub more-items : {l : List ℕ} (m : List ℕ) → Every (Is not_comma) l → items_of (l ++ (code "," ∷ m)) ≡ l ∷ items_of m
unfolding items_of not_comma
more-items m none = refl
more-items m (more {b} e t) = rw (not-true (is "," b) e, more-items m t)

-- ---- the list: sound
-- stops split by commas, counted
data Listed : List ℕ → List Stop → Type 0 where
  last : {l : List ℕ} {s : Stop} → Spaced StopText l s → Listed l (s ∷ [])
  next : {l m : List ℕ} {s : Stop} {ss : List Stop} → Spaced StopText l s → Listed m ss → Listed (l ++ (code "," ∷ m)) (s ∷ ss)

and-more : {l m : List ℕ} {s : Stop} {ss : List Stop} → Spaced StopText l s → Listed m ss → StopsText (l ++ (code "," ∷ m)) (s ∷ ss)
and-more h (last q) = StopsText.two h q
and-more h (next q t) = StopsText.more h (and-more q t)

two-or-more : {l : List ℕ} {ss : List Stop} → Listed l ss → 2 ≤ length ss → StopsText l ss
two-or-more (last h) n = absurd (omega arith)
two-or-more (next h t) n = and-more h t

onto-stop : {i m : List ℕ} {s : Stop} {r : Read (List Stop)} → Spaced StopText i s → Means Listed m r
    → Means Listed (i ++ (code "," ∷ m)) (map_read (λ ss. s ∷ ss) r)
onto-stop h (means q) = means (next h q)
onto-stop h no = no

reads-listed : {l : List ℕ} {is : List (List ℕ)} → Joined l is → Means Listed l (stops_of exact is)
unfolding stops_of
reads-listed (one {i}) = go (reads-item i)
  where
    go : {r : Read Stop} → Means (Spaced StopText) i r → Means Listed i (r >>= λ s _. got (s ∷ []) [])
    go (means h) = means (last h)
    go no = no
reads-listed (many {i} {m} {is} j) = go (reads-item i) (reads-listed j)
  where
    go : {r : Read Stop} → Means (Spaced StopText) i r → Means Listed m (stops_of exact is)
        → Means Listed (i ++ (code "," ∷ m)) (r >>= λ s _. map_read (λ ss. s ∷ ss) (stops_of exact is))
    go (means h) q = onto-stop h q
    go no q = no

pub reads-stops : {l : List ℕ} {is : List (List ℕ)} → Joined l is → Means StopsText l (two_stops_of exact is)
unfolding two_stops_of
reads-stops {l} j = go (reads-listed j)
  where
    enough : (ss : List Stop) → Listed l ss → (t : Bool) → ltb (length ss) 2 ≡ t → Means StopsText l (cond t refused (got ss []))
    enough ss h true e = no
    enough ss h false e = means (two-or-more h (ltb-false _ _ e))

    go : {r : Read (List Stop)} → Means Listed l r → Means StopsText l (r >>= λ ss _. cond (ltb (length ss) 2) refused (got ss []))
    go (means {a = ss} h) = enough ss h (ltb (length ss) 2) refl
    go no = no

-- ---- the list: complete
item-plain : {l : List ℕ} {s : Stop} → Spaced StopText l s → Every (Is not_comma) l
item-plain (spaced a h b) = every_append (space-plain a) (every_append (go (apart h)) (space-plain b))
  where
    of-position : {w : List ℕ} {p : Position} → PositionText w p → Every (Is not_comma) w
    of-position (PositionText.at_length n) = number-plain n
    of-position (PositionText.at-percentage n) = number-plain n

    go : {w : List ℕ} {s : Stop} → Parts w s → Every (Is not_comma) w
    go (alone c) = color-plain c
    go (placed c g p) = every_append (color-plain c) (every_append (gap-plain g) (of-position p))

stops-are : {l : List ℕ} {ss : List Stop} → StopsText l ss → (got ss [] ≡ stops_of exact (items_of l)) × (2 ≤ length ss)
unfolding stops_of
stops-are (StopsText.two {m} h q) = (rw (more-items m (item-plain h), one-item (item-plain q), ← item-reads h, ← item-reads q), omega arith)
stops-are (StopsText.more {m} h t) = let q = stops-are t in (rw (more-items m (item-plain h), ← item-reads h, ← q.0), omega arith)

pub stops-read : {l : List ℕ} {ss : List Stop} → StopsText l ss → got ss [] ≡ two_stops_of exact (items_of l)
unfolding two_stops_of
stops-read {ss} h = let q = stops-are h in rw (← q.0, le-ltb (length ss) 2 q.1)

-- the first item of stops is no direction
item-not : {l : List ℕ} {s : Stop} → Spaced StopText l s → refused ≡ whole_of (direction_of exact) l
unfolding direction_of to_of angle_of
item-not (spaced {l} {e} a h b) =
    whole-refused (direction_of exact) (l ++ e) a (stop-first e h)
    (let n = stop-not e (apart h) in or-second (bind-refused _ n.word) (bind-refused _ n.number))
  where
    stop-not : {w : List ℕ} {s : Stop} (k : List ℕ) → Parts w s → NotDirection (w ++ k)
    stop-not k (alone c) = color-not k c
    stop-not k (placed {l} {g} {m} c s p) = rw (append_assoc l (g ++ m) k) (color-not ((g ++ m) ++ k) c)

pub stops-not : {l : List ℕ} {ss : List Stop} → StopsText l ss → refused ≡ whole_of (direction_of exact) (first (items_of l))
stops-not (StopsText.two {m} h q) = rw (more-items m (item-plain h)) (item-not h)
stops-not (StopsText.more {m} h t) = rw (more-items m (item-plain h)) (item-not h)
