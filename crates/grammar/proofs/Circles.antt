-- The definition of reading what stands before the stops of a radial gradient is the grammar's. Assumes nothing.
use mathlib.Core.Path.{◌≡◌, refl}
use mathlib.Core.List.{List, [], ◌++◌, append_assoc, append-nil}
use mathlib.Core.Logic.{inr}
use Prim.Native.Nat.{ℕ, ◌≤◌, ◌<◌}
use native.Mathlib.Omega.{arith}
use lib.IntN.{ℤ}
use Rattle.text.specs.Text.{bytes, lower, peek_of, keyword_of, word_for, Read, got, refused, ◌>>=◌, ◌or_read◌, after_gap}
use Rattle.text.proofs.Laws.{bind-got, bind-refused, or-first, or-second}
use Rattle.gradient.specs.declared.Coordinate.{Coordinate}
use Rattle.gradient.specs.declared.Extent.{Extent}
use Rattle.gradient.specs.declared.Extent.TheVariants as E
use Rattle.gradient.specs.declared.Size.{Size}
use Rattle.gradient.specs.declared.Size.TheVariants as Z
use Rattle.gradient.specs.declared.Shape.{Shape}
use Rattle.gradient.specs.declared.Shape.TheVariants as Sh
use Rattle.tokens.specs.declared.Unit.{Unit as Measure}
use Rattle.tokens.specs.declared.Unit.TheVariants as U
use Rattle.tokens.specs.declared.Number.{Number}
use Rattle.tokens.specs.Number.{exact}
use Rattle.tokens.specs.Color.{begins}
use Rattle.circles.specs.declared.Place.{Place}
use Rattle.circles.specs.Position.{middle, place, position_of}
use Rattle.circles.specs.Circle.{extent_of, as_length, length_of, size_of, circle_first, size_first, circle_of, at_of, radial_of}
use Rattle.stoplist.specs.View.{not_comma}
use Rattle.grammar.specs.Words.{Every, Gap, Space, Word, OneOf, one}
use Rattle.grammar.specs.Numbers.{LengthText}
use Rattle.grammar.specs.Positions.{PositionText}
use Rattle.grammar.specs.Circles.{ExtentWord, SizeText, CircleText, ShapeText}
use Rattle.grammar.proofs.Laws.{Is, Reads, some, nothing, reads-or, reads_as, reads-map, reads_then, After, after, reads-after, reads_word, reads-for, gap-low, space-ends, after-reads, after-refused, after-blank, word-reads, unlike, word-high, not-letter, every_append, gap-plain, word-plain}
use Rattle.grammar.proofs.Numbers.{Numbered, NumberText, reads-number, number-reads, number-first, no_number, number-none, number-plain}
use Rattle.grammar.proofs.Positions.{reads-position, position-reads, position_first, position-plain}

-- ---- sound
reads-extent : (l : List ℕ) → Reads (OneOf ExtentWord) l (extent_of l)
unfolding extent_of
reads-extent l =
    reads-or (reads-for (OneOf ExtentWord) "closest-side" E.ClosestSide refl (λ _ w. one ExtentWord.closest-side w) l)
    (reads-or (reads-for (OneOf ExtentWord) "closest-corner" E.ClosestCorner refl (λ _ w. one ExtentWord.closest-corner w) l)
    (reads-or (reads-for (OneOf ExtentWord) "farthest-side" E.FarthestSide refl (λ _ w. one ExtentWord.farthest-side w) l)
    (reads-for (OneOf ExtentWord) "farthest-corner" E.FarthestCorner refl (λ _ w. one ExtentWord.farthest-corner w) l)))

-- a length as a size
data LengthSize : List ℕ → Size → Type 0 where
  length : {l : List ℕ} {z : ℤ} → LengthText l z → LengthSize l (Z.Length z)

as-length : {l : List ℕ} {r : Read Number} → Reads Numbered l r → Reads LengthSize l (r >>= λ n k. as_length n.value n.unit k)
as-length {l} (some {a = n} {k} w h e) = go n.unit n.value h
  where
    go : (u : Measure) (z : ℤ) → NumberText u w z → Reads LengthSize l (as_length z u k)
    go U.Length z (NumberText.length q) = some w (length q) e
    go U.Percentage z q = nothing
    go U.Angle z q = nothing
as-length nothing = nothing

reads-length : (l : List ℕ) → Reads LengthSize l (length_of exact l)
unfolding length_of
reads-length l = as-length (reads-number l)

length-size : {l : List ℕ} {z : Size} → LengthSize l z → SizeText l z
length-size (length n) = SizeText.length n

length-circle : {l : List ℕ} {z : Size} → LengthSize l z → CircleText l z
length-circle (length n) = CircleText.length n

reads-size : (l : List ℕ) → Reads SizeText l (size_of exact l)
unfolding size_of
reads-size l =
    reads-or (reads-map SizeText (λ e. Z.Extent e) (λ e w h. SizeText.extent h) (reads-extent l))
    (reads_as SizeText (λ z w h. length-size h) (reads-length l))

reads-circle : (l : List ℕ) → Reads CircleText l (circle_of exact l)
unfolding circle_of circle_first size_first
reads-circle l =
    reads-or (reads_then CircleText _ (λ _ w h m.
    reads-or (reads_as (λ v z. CircleText (w ++ v) z) (λ z v q. size-after h q) (reads-after SizeText (size_of exact) reads-size m))
    (some {a = Z.Extent E.FarthestCorner} [] (rw (append-nil w) (CircleText.circle h)) refl)) (reads_word "circle" refl l))
    (reads-or (reads_then CircleText _ (λ z w h m. size-before z h
    (reads-after (λ v x. (x ≡ z) × Word "circle" v) (word_for "circle" z)
    (λ k. reads-for (λ v x. (x ≡ z) × Word "circle" v) "circle" z refl (λ v q. (refl, q)) k) m)) (reads-size l))
    (reads_as CircleText (λ z w h. length-circle h) (reads-length l)))
  where
    size-after : {w v : List ℕ} {z : Size} → Word "circle" w → After SizeText v z → CircleText (w ++ v) z
    size-after h (after g q) = CircleText.size-after h g q

    size-before : {w m : List ℕ} {r : Read Size} (z : Size) → SizeText w z → Reads (After (λ v x. (x ≡ z) × Word "circle" v)) m r
        → Reads (λ v x. CircleText (w ++ v) x) m r
    size-before z h (some {a = x} v (after g q) e) = some {a = x} v (rw q.0 (CircleText.size-before h g q.1)) e
    size-before z h nothing = nothing

-- white space, `at`, and a position after more white space
data AtText : List ℕ → Place → Type 0 where
  at : {g l h m : List ℕ} {p : Place} → Gap g → Word "at" l → Gap h → PositionText m (p.x, p.y) → AtText (g ++ (l ++ (h ++ m))) p

reads_at : (l : List ℕ) → Reads AtText l (at_of exact l)
unfolding at_of
reads_at l =
    reads_then AtText _ (λ _ w h m. at-then h (reads-after (λ v p. PositionText v (p.x, p.y)) (position_of exact) reads-position m))
    (reads-after (λ w _. Word "at" w) (keyword_of (bytes "at")) (λ k. reads_word "at" refl k) l)
  where
    at-then : {w m : List ℕ} {u : Unit {0}} {r : Read Place} → After {A = Unit {0}} (λ w _. Word "at" w) w u
        → Reads (After (λ v p. PositionText v (p.x, p.y))) m r
        → Reads (λ v p. AtText (w ++ v) p) m r
    at-then (after {g} {l = t} s h) (some {a = p} v (after q r) e) = some {a = p} v (rw (append_assoc g t v) (at s h q r)) e
    at-then h nothing = nothing

pub reads-shape : (l : List ℕ) → Reads ShapeText l (radial_of exact l)
unfolding radial_of
reads-shape l = reads_then ShapeText _ (λ z w h m. center z h (reads_at m)) (reads-circle l)
  where
    positioned : {w v : List ℕ} {z : Size} {p : Place} → CircleText w z → AtText v p → ShapeText (w ++ v) (Sh.Circle z p.x p.y)
    positioned h (at {p} g a b q) = ShapeText.positioned {p = (p.x, p.y)} h g a b q

    center : {w m : List ℕ} {r : Read Place} (z : Size) → CircleText w z → Reads AtText m r
        → Reads (λ v s. ShapeText (w ++ v) s) m ((r or_read got (place middle middle) m) >>= λ p e. got (Sh.Circle z p.x p.y) e)
    center z h (some v q e) = some v (positioned h q) e
    center {w} z h nothing = some {a = Sh.Circle z middle middle} [] (rw (append-nil w) (ShapeText.centered h)) refl

-- ---- complete
extent-reads : {w : List ℕ} {e : Extent} (k : List ℕ) → OneOf ExtentWord w e → got e k ≡ extent_of (w ++ k)
unfolding extent_of begins
extent-reads k (one ExtentWord.closest-side w) = or-first _ (bind-got _ (word-reads k refl w) refl)
extent-reads k (one ExtentWord.closest-corner w) =
    or-second (bind-refused _ (unlike "closest-side" k refl w)) (or-first _ (bind-got _ (word-reads k refl w) refl))
extent-reads k (one ExtentWord.farthest-side w) =
    or-second (bind-refused _ (unlike "closest-side" k refl w))
    (or-second (bind-refused _ (unlike "closest-corner" k refl w)) (or-first _ (bind-got _ (word-reads k refl w) refl)))
extent-reads k (one ExtentWord.farthest-corner w) =
    or-second (bind-refused _ (unlike "closest-side" k refl w))
    (or-second (bind-refused _ (unlike "closest-corner" k refl w))
    (or-second (bind-refused _ (unlike "farthest-side" k refl w)) (bind-got _ (word-reads k refl w) refl)))

length-reads : {w : List ℕ} {z : ℤ} (k : List ℕ) → peek_of k ≤ 32 → LengthText w z → got (Z.Length z) k ≡ length_of exact (w ++ k)
unfolding length_of
length-reads k h n = bind-got _ (number-reads k h (NumberText.length n)) refl

size-reads : {w : List ℕ} {z : Size} (k : List ℕ) → peek_of k ≤ 32 → SizeText w z → got z k ≡ size_of exact (w ++ k)
unfolding size_of extent_of
size-reads k h (SizeText.extent e) = or-first _ (bind-got _ (extent-reads k e) refl)
size-reads k h (SizeText.length {l} n) =
    let f = (number-first k (NumberText.length n)).1 in
    or-second
    (bind-refused _ (or-second (bind-refused _ (not-letter "closest-side" (l ++ k) refl f))
    (or-second (bind-refused _ (not-letter "closest-corner" (l ++ k) refl f))
    (or-second (bind-refused _ (not-letter "farthest-side" (l ++ k) refl f)) (bind-refused _ (not-letter "farthest-corner" (l ++ k) refl f))))))
    (length-reads k h n)

-- a size is not the word `circle`, and begins above white space
size-not : {w : List ℕ} {z : Size} (k : List ℕ) → SizeText w z → refused ≡ keyword_of (bytes "circle") (w ++ k)
unfolding begins
size-not k (SizeText.extent (one ExtentWord.closest-side w)) = unlike "circle" k refl w
size-not k (SizeText.extent (one ExtentWord.closest-corner w)) = unlike "circle" k refl w
size-not k (SizeText.extent (one ExtentWord.farthest-side w)) = unlike "circle" k refl w
size-not k (SizeText.extent (one ExtentWord.farthest-corner w)) = unlike "circle" k refl w
size-not k (SizeText.length {l} n) = not-letter "circle" (l ++ k) refl (number-first k (NumberText.length n)).1

size-first : {w : List ℕ} {z : Size} (k : List ℕ) → SizeText w z → 32 < peek_of (w ++ k)
size-first k (SizeText.extent (one ExtentWord.closest-side w)) = let f = word-high k refl w in omega arith
size-first k (SizeText.extent (one ExtentWord.closest-corner w)) = let f = word-high k refl w in omega arith
size-first k (SizeText.extent (one ExtentWord.farthest-side w)) = let f = word-high k refl w in omega arith
size-first k (SizeText.extent (one ExtentWord.farthest-corner w)) = let f = word-high k refl w in omega arith
size-first k (SizeText.length n) = let f = number-first k (NumberText.length n) in omega arith

-- what may follow a circle: no size and no second `circle`
record Follow (k : List ℕ) : Type 0 where
  ends : peek_of k ≤ 32
  no_size : refused ≡ after_gap (size_of exact) k
  no-circle : (z : Size) → refused ≡ after_gap (word_for "circle" z) k

size_none : refused ≡ size_of exact []
unfolding size_of extent_of length_of keyword_of peek_of lower
size_none = bind-refused _ no_number

word_none : (z : Size) → refused ≡ word_for "circle" z []
unfolding keyword_of peek_of lower
word_none z = refl

follow-blank : {k : List ℕ} → Space k → Follow k
follow-blank h =
    record { ends = space-ends h; no_size = after-blank (size_of exact) h size_none; no-circle = λ z. after-blank (word_for "circle" z) h (word_none z) }

follow-at : {g l : List ℕ} (m : List ℕ) → Gap g → Word "at" l → Follow (g ++ (l ++ m))
unfolding size_of extent_of length_of begins
follow-at {l} m s w =
    let f = word-high m refl w in
    record {
      ends = gap-low (l ++ m) s;
      no_size = after-refused (size_of exact) (l ++ m) s (omega arith)
          (or-second (bind-refused _ (or-second (bind-refused _ (unlike "closest-side" m refl w))
          (or-second (bind-refused _ (unlike "closest-corner" m refl w))
          (or-second (bind-refused _ (unlike "farthest-side" m refl w)) (bind-refused _ (unlike "farthest-corner" m refl w))))))
          (bind-refused _ (number-none (l ++ m) (inr f))));
      no-circle = λ z. after-refused (word_for "circle" z) (l ++ m) s (omega arith) (bind-refused _ (unlike "circle" m refl w));
    }

circle-reads : {w : List ℕ} {z : Size} (k : List ℕ) → Follow k → CircleText w z → got z k ≡ circle_of exact (w ++ k)
unfolding circle_of circle_first size_first
circle-reads k h (CircleText.circle w) = or-first _ (bind-got _ (word-reads k refl w) (or-second h.no_size refl))
circle-reads k h (CircleText.size-after {l} {g} {m} w s q) =
    rw (append_assoc l (g ++ m) k, append_assoc g m k)
    (or-first _ (bind-got _ (word-reads (g ++ (m ++ k)) refl w)
    (or-first _ (after-reads (size_of exact) (m ++ k) k s (size-first k q) (size-reads k h.ends q)))))
circle-reads {z} k h (CircleText.size-before {l} {g} {m} q s w) =
    let f = word-high k refl w in
    rw (append_assoc l (g ++ m) k, append_assoc g m k)
    (or-second (bind-refused _ (size-not (g ++ (m ++ k)) q))
    (or-first _ (bind-got _ (size-reads (g ++ (m ++ k)) (gap-low (m ++ k) s) q)
    (after-reads (word_for "circle" z) (m ++ k) k s (omega arith) (bind-got _ (word-reads k refl w) refl)))))
circle-reads {z} k h (CircleText.length n) =
    or-second (bind-refused _ (size-not k (SizeText.length n)))
    (or-second (bind-got _ (size-reads k h.ends (SizeText.length n)) (h.no-circle z)) (length-reads k h.ends n))

circle-first : {w : List ℕ} {z : Size} (k : List ℕ) → CircleText w z → 32 < peek_of (w ++ k)
circle-first k (CircleText.circle w) = let f = word-high k refl w in omega arith
circle-first k (CircleText.size-after {l} {g} {m} w s q) = rw (append_assoc l (g ++ m) k) (let f = word-high ((g ++ m) ++ k) refl w in omega arith)
circle-first k (CircleText.size-before {l} {g} {m} q s w) = rw (append_assoc l (g ++ m) k) (size-first ((g ++ m) ++ k) q)
circle-first k (CircleText.length n) = let f = number-first k (NumberText.length n) in omega arith

at_none : {k : List ℕ} → Space k → refused ≡ at_of exact k
unfolding at_of keyword_of peek_of lower
at_none h = bind-refused _ (after-blank (keyword_of (bytes "at")) h refl)

at_reads : {g l h m k : List ℕ} {p : Coordinate × Coordinate} → Space k → Gap g → Word "at" l → Gap h → PositionText m p
    → got (place p.0 p.1) k ≡ at_of exact (g ++ (l ++ (h ++ (m ++ k))))
unfolding at_of
at_reads {l} {h} {m} {k} b s w t q =
    let f = word-high (h ++ (m ++ k)) refl w in
    bind-got _ (after-reads (keyword_of (bytes "at")) (l ++ (h ++ (m ++ k))) (h ++ (m ++ k)) s (omega arith) (word-reads (h ++ (m ++ k)) refl w))
    (after-reads (position_of exact) (m ++ k) k t (position_first k q) (position-reads b q))

pub shape-reads : {w k : List ℕ} {s : Shape} → Space k → ShapeText w s → got s k ≡ radial_of exact (w ++ k)
unfolding radial_of
shape-reads {k} b (ShapeText.centered c) = bind-got _ (circle-reads k (follow-blank b) c) (bind-got _ (or-second (at_none b) refl) refl)
shape-reads {k} b (ShapeText.positioned {l} {g} {m} {h} {n} c s w t q) =
    rw (append_assoc l (g ++ (m ++ (h ++ n))) k, append_assoc g (m ++ (h ++ n)) k, append_assoc m (h ++ n) k, append_assoc h n k)
    (bind-got _ (circle-reads (g ++ (m ++ (h ++ (n ++ k)))) (follow-at (h ++ (n ++ k)) s w) c) (bind-got _ (or-first _ (at_reads b s w t q)) refl))

pub shape-first : {w : List ℕ} {s : Shape} (k : List ℕ) → ShapeText w s → 32 < peek_of (w ++ k)
shape-first k (ShapeText.centered c) = circle-first k c
shape-first k (ShapeText.positioned {l} {g} {m} {h} {n} c s w t q) =
    rw (append_assoc l (g ++ (m ++ (h ++ n))) k) (circle-first ((g ++ (m ++ (h ++ n))) ++ k) c)

-- ---- no comma
size-plain : {w : List ℕ} {z : Size} → SizeText w z → Every (Is not_comma) w
size-plain (SizeText.extent (one ExtentWord.closest-side w)) = word-plain refl w
size-plain (SizeText.extent (one ExtentWord.closest-corner w)) = word-plain refl w
size-plain (SizeText.extent (one ExtentWord.farthest-side w)) = word-plain refl w
size-plain (SizeText.extent (one ExtentWord.farthest-corner w)) = word-plain refl w
size-plain (SizeText.length n) = number-plain (NumberText.length n)

circle-plain : {w : List ℕ} {z : Size} → CircleText w z → Every (Is not_comma) w
circle-plain (CircleText.circle w) = word-plain refl w
circle-plain (CircleText.size-after w g q) = every_append (word-plain refl w) (every_append (gap-plain g) (size-plain q))
circle-plain (CircleText.size-before q g w) = every_append (size-plain q) (every_append (gap-plain g) (word-plain refl w))
circle-plain (CircleText.length n) = number-plain (NumberText.length n)

pub shape-plain : {w : List ℕ} {s : Shape} → ShapeText w s → Every (Is not_comma) w
shape-plain (ShapeText.centered c) = circle-plain c
shape-plain (ShapeText.positioned c g w h q) =
    every_append (circle-plain c) (every_append (gap-plain g) (every_append (word-plain refl w) (every_append (gap-plain h) (position-plain q))))
