-- The definition of reading a text is the grammar. Assumes nothing.
use mathlib.Core.Path.{◌≡◌, refl, sym, ◌∙◌}
use mathlib.Core.List.{List, [], ◌∷◌, ◌++◌, append_assoc}
use mathlib.Core.Bool.{Bool, true, false, cond, ◌&&◌}
use mathlib.Core.Logic.{◌↔◌}
use Prim.Native.Nat.{ℕ, ◌<◌}
use Prim.Native.Char.{code}
use native.Mathlib.Omega.{arith}
use borrow.Author.Tests.{eqb-true}
use Rattle.text.specs.Text.{is, is_nil, is_space, run, past, peek_of, rest_of, map_read, Read, got, refused, ◌>>=◌, whole_of}
use Rattle.text.proofs.Laws.{bind-got, bind-refused, or-first, or-second, got-refused, run_past}
use Rattle.gradient.specs.declared.Side.TheVariants as S
use Rattle.gradient.specs.declared.Direction.{Direction}
use Rattle.gradient.specs.declared.Direction.TheVariants as D
use Rattle.gradient.specs.declared.Shape.{Shape}
use Rattle.gradient.specs.declared.Shape.TheVariants as Sh
use Rattle.gradient.specs.declared.Stop.{Stop}
use Rattle.tokens.specs.Number.{exact}
use Rattle.tokens.specs.Color.{begins}
use Rattle.directions.specs.Direction.{direction_of}
use Rattle.circles.specs.Circle.{radial_of}
use Rattle.stoplist.specs.Stops.{stops_of, two_stops_of}
use Rattle.stoplist.specs.View.{not_comma}
use Rattle.reader.specs.Written.{Written, written}
use Rattle.reader.specs.Text.{first, others, with_stops, by_direction, linear_of, circular_of, closes_of, body_of, kind_of, of_kind, function_of, gradient_of}
use Rattle.reader.specs.declared.Kind.{Kind}
use Rattle.reader.specs.declared.Kind.TheVariants as K
use Rattle.grammar.specs.Words.{Every, Space, Spaced, spaced, Word}
use Rattle.grammar.specs.Stops.{StopsText}
use Rattle.grammar.specs.Directions.{DirectionText}
use Rattle.grammar.specs.Circles.{ShapeText}
use Rattle.grammar.specs.Text.{LinearText, plain, directed, RadialText, circular, FunctionText, linear, radial, repeating-linear, repeating-radial, InGrammar}
use Rattle.grammar.proofs.Laws.{Is, Reads, some, nothing, Means, means, no, meant, reads_whole, whole-reads, nil-past, blank-past, run-space, reads-or, reads-for, space-past, word-reads, unlike, word-high, every_append, space-plain}
use Rattle.grammar.proofs.Stops.{Joined, one, many, joined, more-items, reads-stops, stops-read, stops-not}
use Rattle.grammar.proofs.Directions.{reads-direction, direction-reads, direction-first, direction-plain}
use Rattle.grammar.proofs.Circles.{reads-shape, shape-reads, shape-first, shape-plain}

-- ---- sound
with-stops : {l m : List ℕ} {is : List (List ℕ)} (R : List ℕ → Written → Type 0) (s : Shape) (b : Bool)
    → ((ss : List Stop) → StopsText m ss → R l (written s b ss)) → Joined m is → Means R l (with_stops exact s b is)
unfolding with_stops
with-stops {l} {m} R s b f j = go (reads-stops j)
  where
    go : {r : Read (List Stop)} → Means StopsText m r → Means R l (r >>= λ ss _. got (written s b ss) [])
    go (means {a = ss} h) = means (f ss h)
    go no = no

-- no items are no stops
no-stops : (s : Shape) (b : Bool) → refused ≡ with_stops exact s b []
unfolding with_stops two_stops_of stops_of
no-stops s b = refl

reads-linear : (b : Bool) (l : List ℕ) → Means (LinearText b) l (linear_of exact b l)
unfolding linear_of
reads-linear b l = go (joined l)
  where
    alone : {l : List ℕ} {is : List (List ℕ)} (r : Read Direction) → Joined l is → others is ≡ [] → Means (LinearText b) l (by_direction exact r b is)
    alone {is} (got d k) j e = rw (e, ← no-stops (Sh.Linear d) b) no
    alone refused j e = with-stops (LinearText b) (Sh.Linear (D.Side S.Bottom)) b (λ ss h. plain h) j

    ahead : {i m : List ℕ} {is : List (List ℕ)} {r : Read Direction} → Joined m is → Means (Spaced DirectionText) i r
        → Means (LinearText b) (i ++ (code "," ∷ m)) (by_direction exact r b (i ∷ is))
    ahead j (means {a = d} h) = with-stops (LinearText b) (Sh.Linear d) b (λ ss q. directed h q) j
    ahead j no = with-stops (LinearText b) (Sh.Linear (D.Side S.Bottom)) b (λ ss h. plain h) (many j)

    go : {l : List ℕ} {is : List (List ℕ)} → Joined l is → Means (LinearText b) l (by_direction exact (whole_of (direction_of exact) (first is)) b is)
    go (one {i}) = alone (whole_of (direction_of exact) i) one refl
    go (many {i} j) = ahead j (reads_whole DirectionText (direction_of exact) reads-direction i)

reads-circular : (b : Bool) (l : List ℕ) → Means (RadialText b) l (circular_of exact b l)
unfolding circular_of
reads-circular b l = go (joined l)
  where
    ahead : {i m : List ℕ} {is : List (List ℕ)} {r : Read Shape} → Joined m is → Means (Spaced ShapeText) i r
        → Means (RadialText b) (i ++ (code "," ∷ m)) (r >>= λ s _. with_stops exact s b is)
    ahead j (means {a = s} h) = with-stops (RadialText b) s b (λ ss q. circular h q) j
    ahead j no = no

    alone : (l : List ℕ) (r : Read Shape) → Means (RadialText b) l (r >>= λ s _. with_stops exact s b [])
    alone l (got s k) = rw (← no-stops s b) no
    alone l refused = no

    go : {l : List ℕ} {is : List (List ℕ)} → Joined l is
        → Means (RadialText b) l (whole_of (radial_of exact) (first is) >>= λ s _. with_stops exact s b (others is))
    go (one {i}) = alone i (whole_of (radial_of exact) i)
    go (many {i} j) = ahead j (reads_whole ShapeText (radial_of exact) reads-shape i)

-- the closing bracket
data Closed : List ℕ → Read (List ℕ) → Type 0 where
  closed : {b e : List ℕ} → Space e → Closed (b ++ (code ")" ∷ e)) (got b [])
  open' : {l : List ℕ} → Closed l refused

closed-more : {l : List ℕ} {r : Read (List ℕ)} (b : ℕ) → Closed l r → Closed (b ∷ l) (map_read (λ body. b ∷ body) r)
closed-more b (closed h) = closed h
closed-more b open' = open'

reads-body : (l : List ℕ) → Closed l (body_of l)
unfolding body_of closes_of peek_of rest_of
reads-body [] = open'
reads-body (b ∷ l) = go (is ")" b) refl (is_nil (past is_space l)) refl (reads-body l)
  where
    go : (t : Bool) → is ")" b ≡ t → (n : Bool) → is_nil (past is_space l) ≡ n → Closed l (body_of l)
        → Closed (b ∷ l) (cond (t && n) (got [] []) (map_read (λ body. b ∷ body) (body_of l)))
    go true e true q h = rw (eqb-true b (code ")") e) (closed (nil-past l q))
    go true e false q h = closed-more b h
    go false e n q h = closed-more b h

-- the function: its name, its body and its closing bracket
data KindText : List ℕ → Kind → Type 0 where
  linear-name : {l : List ℕ} → Word "linear-gradient(" l → KindText l (K.Linear false)
  radial-name : {l : List ℕ} → Word "radial-gradient(" l → KindText l (K.Radial false)
  repeating-linear-name : {l : List ℕ} → Word "repeating-linear-gradient(" l → KindText l (K.Linear true)
  repeating-radial-name : {l : List ℕ} → Word "repeating-radial-gradient(" l → KindText l (K.Radial true)

reads-kind : (l : List ℕ) → Reads KindText l (kind_of l)
unfolding kind_of
reads-kind l =
    reads-or (reads-for KindText "linear-gradient(" (K.Linear false) refl (λ _ h. linear-name h) l)
    (reads-or (reads-for KindText "radial-gradient(" (K.Radial false) refl (λ _ h. radial-name h) l)
    (reads-or (reads-for KindText "repeating-linear-gradient(" (K.Linear true) refl (λ _ h. repeating-linear-name h) l)
    (reads-for KindText "repeating-radial-gradient(" (K.Radial true) refl (λ _ h. repeating-radial-name h) l)))

data Called : List ℕ → Written → Type 0 where
  called : {f e : List ℕ} {g : Written} → FunctionText f g → Space e → Called (f ++ e) g

reads-function : (l : List ℕ) → Means Called l (function_of exact l)
unfolding function_of
reads-function l = go (reads-kind l)
  where
    closing : (w b t : List ℕ) → (w ++ (b ++ (code ")" ∷ []))) ++ t ≡ w ++ (b ++ (code ")" ∷ t))
    closing w b t = rw (append_assoc w (b ++ (code ")" ∷ [])) t, append_assoc b (code ")" ∷ []) t)

    shut : {b t : List ℕ} {r : Read Written} (w : List ℕ) (R : List ℕ → Written → Type 0)
        → ((g : Written) → R b g → FunctionText (w ++ (b ++ (code ")" ∷ []))) g) → Space t → Means R b r → Means Called (w ++ (b ++ (code ")" ∷ t))) r
    shut {b} {t} w R f s (means {a = g} h) = means {a = g} (rw (closing w b t) at (called (f g h) s))
    shut w R f s no = no

    body : {w k : List ℕ} {kind : Kind} {r : Read (List ℕ)} → KindText w kind → Closed k r
        → Means Called (w ++ k) (r >>= λ body _. of_kind exact kind body)
    body (linear-name {l} q) (closed {b} s) = shut l (LinearText false) (λ g h. linear q h) s (reads-linear false b)
    body (radial-name {l} q) (closed {b} s) = shut l (RadialText false) (λ g h. radial q h) s (reads-circular false b)
    body (repeating-linear-name {l} q) (closed {b} s) = shut l (LinearText true) (λ g h. repeating-linear q h) s (reads-linear true b)
    body (repeating-radial-name {l} q) (closed {b} s) = shut l (RadialText true) (λ g h. repeating-radial q h) s (reads-circular true b)
    body q open' = no

    go : {r : Read Kind} → Reads KindText l r → Means Called l (r >>= λ kind k. body_of k >>= λ body _. of_kind exact kind body)
    go (some {k} w h e) = rw e at (body h (reads-body k))
    go nothing = no

-- what the definition of reading gets is in the grammar
pub sound : (l : List ℕ) {g : Written} {k : List ℕ} → got g k ≡ gradient_of exact l → InGrammar l g
sound l {g} e = rw (run_past is_space l) at (go (past is_space l) (meant e (reads-function (past is_space l))))
  where
    go : (m : List ℕ) → Called m g → InGrammar (run is_space l ++ m) g
    go m (called f s) = spaced (run-space l) f s

-- ---- complete
not-nil : (b e : List ℕ) → is_nil (past is_space (b ++ (code ")" ∷ e))) ≡ false
unfolding past is_space
not-nil [] e = refl
not-nil (c ∷ b) e = go (is_space c) (not-nil b e)
  where
    go : (t : Bool) → is_nil (past is_space (b ++ (code ")" ∷ e))) ≡ false
        → is_nil (cond t (past is_space (b ++ (code ")" ∷ e))) (c ∷ (b ++ (code ")" ∷ e)))) ≡ false
    go true h = h
    go false h = refl

body_reads : {e : List ℕ} (b : List ℕ) → Space e → got b [] ≡ body_of (b ++ (code ")" ∷ e))
unfolding body_of closes_of peek_of rest_of
body_reads [] h = rw (blank-past h)
body_reads {e} (c ∷ b) h = rw (not-nil b e, ← body_reads b h) (go (is ")" c))
  where
    go : (t : Bool) → got (c ∷ b) [] ≡ cond (t && false) (got [] []) (got (c ∷ b) [])
    go true = refl
    go false = refl

linear-reads : {b : Bool} {l : List ℕ} {g : Written} → LinearText b l g → got g [] ≡ linear_of exact b l
unfolding linear_of with_stops
linear-reads (plain {l} h) = rw (← stops-not h, ← stops-read h)
linear-reads (directed {m} d h) = rw (more-items m (direction-item-plain d), ← direction-item d, ← stops-read h)
  where
    direction-item : {l : List ℕ} {d : Direction} → Spaced DirectionText l d → got d [] ≡ whole_of (direction_of exact) l
    direction-item (spaced {l} {e} a h b) = whole-reads (direction_of exact) l a b (direction-first e h) (direction-reads b h)

    direction-item-plain : {l : List ℕ} {d : Direction} → Spaced DirectionText l d → Every (Is not_comma) l
    direction-item-plain (spaced a h b) = every_append (space-plain a) (every_append (direction-plain h) (space-plain b))

circular-reads : {b : Bool} {l : List ℕ} {g : Written} → RadialText b l g → got g [] ≡ circular_of exact b l
unfolding circular_of with_stops
circular-reads (circular {m} c h) = rw (more-items m (item-plain c), ← item c, ← stops-read h)
  where
    item : {l : List ℕ} {s : Shape} → Spaced ShapeText l s → got s [] ≡ whole_of (radial_of exact) l
    item (spaced {l} {e} a h b) = whole-reads (radial_of exact) l a b (shape-first e h) (shape-reads b h)

    item-plain : {l : List ℕ} {s : Shape} → Spaced ShapeText l s → Every (Is not_comma) l
    item-plain (spaced a h b) = every_append (space-plain a) (every_append (shape-plain h) (space-plain b))

kind-reads : {w : List ℕ} {kind : Kind} (k : List ℕ) → KindText w kind → got kind k ≡ kind_of (w ++ k)
unfolding kind_of begins
kind-reads k (linear-name w) = or-first _ (bind-got _ (word-reads k refl w) refl)
kind-reads k (radial-name w) =
    or-second (bind-refused _ (unlike "linear-gradient(" k refl w)) (or-first _ (bind-got _ (word-reads k refl w) refl))
kind-reads k (repeating-linear-name w) =
    or-second (bind-refused _ (unlike "linear-gradient(" k refl w))
    (or-second (bind-refused _ (unlike "radial-gradient(" k refl w)) (or-first _ (bind-got _ (word-reads k refl w) refl)))
kind-reads k (repeating-radial-name w) =
    or-second (bind-refused _ (unlike "linear-gradient(" k refl w))
    (or-second (bind-refused _ (unlike "radial-gradient(" k refl w))
    (or-second (bind-refused _ (unlike "repeating-linear-gradient(" k refl w)) (bind-got _ (word-reads k refl w) refl)))

called-reads : {w e : List ℕ} {kind : Kind} {g : Written} (m : List ℕ) → Space e → KindText w kind → got g [] ≡ of_kind exact kind m
    → got g [] ≡ function_of exact ((w ++ (m ++ (code ")" ∷ []))) ++ e)
unfolding function_of
called-reads {w} {e} m s q h =
    rw (append_assoc w (m ++ (code ")" ∷ [])) e, append_assoc m (code ")" ∷ []) e)
    (bind-got _ (kind-reads (m ++ (code ")" ∷ e)) q) (bind-got _ (body_reads m s) h))

function-reads : {l e : List ℕ} {g : Written} → Space e → FunctionText l g → got g [] ≡ function_of exact (l ++ e)
function-reads s (linear {m} w h) = called-reads m s (linear-name w) (linear-reads h)
function-reads s (radial {m} w h) = called-reads m s (radial-name w) (circular-reads h)
function-reads s (repeating-linear {m} w h) = called-reads m s (repeating-linear-name w) (linear-reads h)
function-reads s (repeating-radial {m} w h) = called-reads m s (repeating-radial-name w) (circular-reads h)

function-first : {l : List ℕ} {g : Written} (k : List ℕ) → FunctionText l g → 57 < peek_of (l ++ k)
function-first k (linear {l} {m} w h) = rw (append_assoc l (m ++ (code ")" ∷ [])) k) (word-high ((m ++ (code ")" ∷ [])) ++ k) refl w)
function-first k (radial {l} {m} w h) = rw (append_assoc l (m ++ (code ")" ∷ [])) k) (word-high ((m ++ (code ")" ∷ [])) ++ k) refl w)
function-first k (repeating-linear {l} {m} w h) = rw (append_assoc l (m ++ (code ")" ∷ [])) k) (word-high ((m ++ (code ")" ∷ [])) ++ k) refl w)
function-first k (repeating-radial {l} {m} w h) = rw (append_assoc l (m ++ (code ")" ∷ [])) k) (word-high ((m ++ (code ")" ∷ [])) ++ k) refl w)

-- the definition of reading gets what is in the grammar
pub complete : {l : List ℕ} {g : Written} → InGrammar l g → got g [] ≡ gradient_of exact l
complete (spaced {l} {e} s f t) = let h = function-first e f in rw (space-past (l ++ e) (omega arith) s) (function-reads t f)

-- a text is in the grammar, with its gradient, exactly when reading gets that gradient and nothing is left
pub grammar : (l : List ℕ) (g : Written) → (gradient_of exact l ≡ got g []) ↔ InGrammar l g
grammar l g = (λ e. sound l (sym e), λ h. sym (complete h))

-- no text writes two gradients
pub one-gradient : {l : List ℕ} {g g' : Written} → InGrammar l g → InGrammar l g' → g ≡ g'
one-gradient h h' = let e = complete h in let e' = complete h' in cc

-- a text is refused exactly when it is in the grammar with no gradient
pub refused-not : (l : List ℕ) → gradient_of exact l ≡ refused → (g : Written) → InGrammar l g → ⊥
refused-not l e g h = got-refused (complete h ∙ e)

pub not-refused : (l : List ℕ) → ((g : Written) → InGrammar l g → ⊥) → gradient_of exact l ≡ refused
not-refused l f = go (gradient_of exact l) refl
  where
    go : (r : Read Written) → r ≡ gradient_of exact l → r ≡ refused
    go (got g k) e = absurd (f g (sound l e))
    go refused e = refl
