-- Laws of readings by what they read. Assumes nothing.
use mathlib.Core.Path.{◌≡◌, refl, sym, ap, ◌∙◌}
use mathlib.Core.List.{List, [], ◌∷◌, ◌++◌, map, append_assoc, append-nil}
use mathlib.Core.Bool.{Bool, true, false, cond, not, ◌&&◌, ◌||◌, true≢false, false≢true}
use mathlib.Core.Logic.{◌⊎◌, inl, inr, ⊎_elim}
use Prim.Native.Nat.{ℕ, ◌+◌, ◌-◌, ◌≤◌, ◌<◌}
use Prim.Native.Char.{code}
use Prim.Native.String.{String, [] as empty, ◌∷◌ as ◌then◌}
use native.Mathlib.Omega.{arith}
use lib.Dec.{ltb, eqb}
use borrow.Author.Tests.{eq-eqb, ne_eqb, lt-leb, eqb-true, ltb-true, not-true}
use Rattle.text.specs.Text.{bytes, is, in_range, is_nil, peek_of, rest_of, past, run, is_space, gap_of, lower, keyword_of, word_for, Read, got, refused, ◌>>=◌, ◌or_read◌, after_gap, whole_of}
use Rattle.text.proofs.Laws.{keyword-letter, past_stop, run-stop, run_past, space-end, range-bounds, in-range}
use Rattle.gradient.specs.Lists.{all}
use Rattle.tokens.specs.Color.{begins}
use Rattle.tokens.proofs.NameTable.{both, two-words}
use Rattle.stoplist.specs.View.{not_comma}
use Rattle.grammar.specs.Words.{Every, none, more, White, Space, Gap, gap, Spaced, spaced, Letter, same, capital, Word, end, letter}

-- ---- what a reading gets
-- what a reading of l gets, if it gets something, is the value of a word of R, and the rest follows the word
pub data Reads {A : Type 0} (R : List ℕ → A → Type 0) (l : List ℕ) : Read A → Type 0 where
  some : {a : A} {k : List ℕ} (w : List ℕ) → R w a → w ++ k ≡ l → Reads R l (got a k)
  nothing : Reads R l refused

-- a reading, or another one; and words of R that are words of S
pub reads-or : {A : Type 0} {R : List ℕ → A → Type 0} {l : List ℕ} {r t : Read A} → Reads R l r → Reads R l t → Reads R l (r or_read t)
reads-or (some w h e) g = some w h e
reads-or nothing g = g

pub reads_as : {A : Type 0} {R : List ℕ → A → Type 0} {l : List ℕ} {r : Read A} (S : List ℕ → A → Type 0) → ((a : A) (w : List ℕ) → R w a → S w a)
    → Reads R l r → Reads S l r
reads_as S f (some w h e) = some w (f _ w h) e
reads_as S f nothing = nothing

pub reads-map : {A B : Type 0} {R : List ℕ → A → Type 0} {l : List ℕ} {r : Read A} (S : List ℕ → B → Type 0) (f : A → B)
    → ((a : A) (w : List ℕ) → R w a → S w (f a)) → Reads R l r → Reads S l (r >>= λ a k. got (f a) k)
reads-map S f g (some w h e) = some w (g _ w h) e
reads-map S f g nothing = nothing

-- a reading of what follows, by the words that go before
pub behind : {B : Type 0} {m : List ℕ} {t : Read B} (S : List ℕ → B → Type 0) (w l : List ℕ) → w ++ m ≡ l → Reads (λ v b. S (w ++ v) b) m t
    → Reads S l t
behind S w l e (some {k} v h q) = some (w ++ v) h (append_assoc w v k ∙ ap (λ x. w ++ x) q ∙ e)
behind S w l e nothing = nothing

pub reads_then : {A B : Type 0} {R : List ℕ → A → Type 0} {l : List ℕ} {r : Read A} (S : List ℕ → B → Type 0) (f : A → List ℕ → Read B)
    → ((a : A) (w : List ℕ) → R w a → (m : List ℕ) → Reads (λ v b. S (w ++ v) b) m (f a m)) → Reads R l r → Reads S l (r >>= f)
reads_then {l} S f g (some {k} w h e) = behind S w l e (g _ w h k)
reads_then S f g nothing = nothing

-- ---- classes of bytes
abbrev pub Is : (ℕ → Bool) → ℕ → Type 0
Is p b = p b ≡ true

pub every_append : {K : ℕ → Type 0} {l m : List ℕ} → Every K l → Every K m → Every K (l ++ m)
every_append none w = w
every_append (more e t) w = more e (every_append t w)

pub every-sub : {K : ℕ → Type 0} {l : List ℕ} (Q : ℕ → Type 0) → ((b : ℕ) → K b → Q b) → Every K l → Every Q l
every-sub Q f none = none
every-sub Q f (more {b} e t) = more (f b e) (every-sub Q f t)

-- the bytes of a class at the front of a text are one run; and a run is all that stands before a byte outside the class
pub run-every : (p : ℕ → Bool) (l : List ℕ) → Every (Is p) (run p l)
unfolding run
run-every p [] = none
run-every p (b ∷ l) = go (p b) refl (run-every p l)
  where
    go : (t : Bool) → p b ≡ t → Every (Is p) (run p l) → Every (Is p) (cond t (b ∷ run p l) [])
    go true e h = more e h
    go false e h = none

module _ (p : ℕ → Bool) (end : p 0 ≡ false) (k : List ℕ) (h : p (peek_of k) ≡ false) where
  pub past-every : {s : List ℕ} → Every (Is p) s → past p (s ++ k) ≡ k
  unfolding past
  past-every none = sym (past_stop p end k h)
  past-every (more e t) = rw e (past-every t)

  pub every-run : {s : List ℕ} → Every (Is p) s → run p (s ++ k) ≡ s
  unfolding run
  every-run none = run-stop p end k h
  every-run (more {b} e t) = rw e (ap (λ x. b ∷ x) (every-run t))

-- ---- white space
white-is : {b : ℕ} → White b → is_space b ≡ true
unfolding is_space
white-is White.space = refl
white-is White.tab = refl
white-is White.lf = refl
white-is White.cr = refl
white-is White.ff = refl

is_white : (b : ℕ) → is_space b ≡ true → White b
unfolding is_space
is_white b h = go (is " " b) (is "\t" b) (is "\n" b) (is "\r" b) (is "\u{c}" b) refl refl refl refl refl h
  where
    go : (s t n r f : Bool) → is " " b ≡ s → is "\t" b ≡ t → is "\n" b ≡ n → is "\r" b ≡ r → is "\u{c}" b ≡ f → (s || t || n || r || f) ≡ true → White b
    go true t n r f p q u v w e = rw (eqb-true b (code " ") p) White.space
    go false true n r f p q u v w e = rw (eqb-true b (code "\t") q) White.tab
    go false false true r f p q u v w e = rw (eqb-true b (code "\n") u) White.lf
    go false false false true f p q u v w e = rw (eqb-true b (code "\r") v) White.cr
    go false false false false true p q u v w e = rw (eqb-true b (code "\u{c}") w) White.ff
    go false false false false false p q u v w e = absurd (false≢true e)

spaces : {l : List ℕ} → Space l → Every (Is is_space) l
spaces w = every-sub (Is is_space) (λ b h. white-is h) w

pub run-space : (l : List ℕ) → Space (run is_space l)
run-space l = every-sub White is_white (run-every is_space l)

not-space : (b : ℕ) → 32 < b → is_space b ≡ false
unfolding is_space
not-space b h =
    rw (
      ne_eqb b 32 (λ e. omega arith),
      ne_eqb b 9 (λ e. omega arith),
      ne_eqb b 10 (λ e. omega arith),
      ne_eqb b 13 (λ e. omega arith),
      ne_eqb b 12
          (λ e. omega arith),
    )

white_low : {b : ℕ} → White b → b ≤ 32
white_low White.space = omega arith
white_low White.tab = omega arith
white_low White.lf = omega arith
white_low White.cr = omega arith
white_low White.ff = omega arith

pub space-past : {s : List ℕ} (l : List ℕ) → 32 < peek_of l → Space s → past is_space (s ++ l) ≡ l
space-past l h w = past-every is_space space-end l (not-space _ h) (spaces w)

pub blank-past : {k : List ℕ} → Space k → past is_space k ≡ []
unfolding past
blank-past none = refl
blank-past (more e t) = rw (white-is e) (blank-past t)

pub gap-low : {g : List ℕ} (k : List ℕ) → Gap g → peek_of (g ++ k) ≤ 32
unfolding peek_of
gap-low k (gap e t) = white_low e

pub space-ends : {k : List ℕ} → Space k → peek_of k ≤ 32
unfolding peek_of
space-ends none = omega arith
space-ends (more e t) = white_low e

pub nil-past : (k : List ℕ) → is_nil (past is_space k) ≡ true → Space k
nil-past k e = go (past is_space k) e (run_past is_space k)
  where
    go : (m : List ℕ) → is_nil m ≡ true → run is_space k ++ m ≡ k → Space k
    go [] q p = let z : run is_space k ≡ k = sym (append-nil _) ∙ p in rw z at (run-space k)
    go (b ∷ m) q p = absurd (false≢true q)

-- at least one byte of white space
reads-gap : (l : List ℕ) → Reads (λ w _. Gap w) l (gap_of l)
unfolding gap_of peek_of past
reads-gap [] = rw space-end nothing
reads-gap (b ∷ l) = go (is_space b) refl
  where
    go : (t : Bool) → is_space b ≡ t → Reads (λ w _. Gap w) (b ∷ l) (cond t (got (tt {0}) (cond t (past is_space l) (b ∷ l))) refused)
    go true e = some (b ∷ run is_space l) (gap (is_white b e) (run-space l)) (ap (λ z. b ∷ z) (run_past is_space l))
    go false e = nothing

-- ---- after white space
pub data After {A : Type 0} (R : List ℕ → A → Type 0) : List ℕ → A → Type 0 where
  after : {g l : List ℕ} {a : A} → Gap g → R l a → After R (g ++ l) a

pub reads-after : {A : Type 0} (R : List ℕ → A → Type 0) (read : List ℕ → Read A) → ((m : List ℕ) → Reads R m (read m)) → (l : List ℕ)
    → Reads (After R) l (after_gap read l)
reads-after R read f l = reads_then (After R) (λ _ k. read k) (λ _ g h m. reads_as (λ v b. After R (g ++ v) b) (λ a w r. after h r) (f m)) (reads-gap l)

module _ {A : Type 0} (read : List ℕ → Read A) where
  pub after-reads : {a : A} {g : List ℕ} (l k : List ℕ) → Gap g → 32 < peek_of l → got a k ≡ read l → got a k ≡ after_gap read (g ++ l)
  unfolding gap_of peek_of
  after-reads l k (gap e t) h q = rw (white-is e, space-past l h (more e t)) q

  pub after-refused : {g : List ℕ} (l : List ℕ) → Gap g → 32 < peek_of l → refused ≡ read l → refused ≡ after_gap read (g ++ l)
  unfolding gap_of peek_of
  after-refused l (gap e t) h q = rw (white-is e, space-past l h (more e t)) q

  pub after-blank : {k : List ℕ} → Space k → refused ≡ read [] → refused ≡ after_gap read k
  unfolding gap_of peek_of
  after-blank none h = rw space-end
  after-blank (more e t) h = rw (white-is e, blank-past (more e t)) h

-- ---- a whole text, with white space around it
-- what a reading of the whole of l gets, if it gets something, is the value of l in R
pub data Means {A : Type 0} (R : List ℕ → A → Type 0) (l : List ℕ) : Read A → Type 0 where
  means : {a : A} {k : List ℕ} → R l a → Means R l (got a k)
  no : Means R l refused

pub meant : {A : Type 0} {R : List ℕ → A → Type 0} {l : List ℕ} {a : A} {k : List ℕ} {r : Read A} → got a k ≡ r → Means R l r → R l a
meant {A} {R} {l} {a} {k} e h = go (rw (← e) at h)
  where
    go : Means R l (got a k) → R l a
    go (means q) = q

pub reads_whole : {A : Type 0} (R : List ℕ → A → Type 0) (read : List ℕ → Read A) → ((m : List ℕ) → Reads R m (read m)) → (l : List ℕ)
    → Means (Spaced R) l (whole_of read l)
unfolding whole_of
reads_whole R read f l = go (past is_space l) (run_past is_space l) (f (past is_space l))
  where
    finish : (a : _) (w k m : List ℕ) → R w a → w ++ k ≡ m → run is_space l ++ m ≡ l → (t : Bool) → is_nil (past is_space k) ≡ t
        → Means (Spaced R) l (cond t (got a []) refused)
    finish a w k m h e p true q = means {a = a} (rw (← p, ← e) (spaced (run-space l) h (nil-past k q)))
    finish a w k m h e p false q = no

    go : (m : List ℕ) → run is_space l ++ m ≡ l → {r : Read _} → Reads R m r
        → Means (Spaced R) l (r >>= λ a k. cond (is_nil (past is_space k)) (got a []) refused)
    go m p (some {a} {k} w h e) = finish a w k m h e p (is_nil (past is_space k)) refl
    go m p nothing = no

module _ {A : Type 0} (read : List ℕ → Read A) where
  pub whole-reads : {a : A} {s e : List ℕ} (l : List ℕ) → Space s → Space e → 32 < peek_of (l ++ e) → got a e ≡ read (l ++ e)
      → got a [] ≡ whole_of read (s ++ (l ++ e))
  unfolding whole_of
  whole-reads l s t h q = rw (space-past _ h s, ← q, blank-past t)

  pub whole-refused : {s : List ℕ} (l : List ℕ) → Space s → 32 < peek_of l → refused ≡ read l → refused ≡ whole_of read (s ++ l)
  unfolding whole_of
  whole-refused l s h q = rw (space-past _ h s, ← q)

-- ---- words
-- a letter is what it is in lower case, or 32 less
lower-cases : (b : ℕ) → (lower b ≡ b) ⊎ ((65 ≤ b) × (b ≤ 90) × (lower b ≡ b + 32))
unfolding lower
lower-cases b = go (in_range "A" "Z" b) refl
  where
    go : (t : Bool) → in_range "A" "Z" b ≡ t → (cond t (b + 32) b ≡ b) ⊎ ((65 ≤ b) × (b ≤ 90) × (cond t (b + 32) b ≡ b + 32))
    go true e = let r = range-bounds "A" "Z" b e in inr (r.0, r.1, refl)
    go false e = inl refl

pub lower-low : (b : ℕ) → b < 65 → lower b ≡ b
unfolding lower
lower-low b h = rw (lt-leb 65 b h)

pub first-high : (b x : ℕ) → lower b ≡ x → 57 < x → 57 < b
first-high b x e h = ⊎_elim (λ q. omega arith) (λ q. omega arith) (lower-cases b)

pub first-low : (b x : ℕ) → lower b ≡ x → x < 46 → b < 46
first-low b x e h = ⊎_elim (λ q. omega arith) (λ q. omega arith) (lower-cases b)

-- a byte that matches a character is that character in lower case, where that is no capital; and the other way round
abbrev pub is_small : ℕ → Bool
is_small c = not (in_range "A" "Z" c)

pub letter-lower : {b c : ℕ} → is_small c ≡ true → Letter b c → lower b ≡ c
unfolding lower
letter-lower h (same {b}) = rw (not-true (in_range "A" "Z" b) h)
letter-lower h (capital i s) = rw (in-range "A" "Z" (65 + i) (omega arith) (omega arith)) (omega arith)

pub lower-letter : (b c : ℕ) → lower b ≡ c → Letter b c
lower-letter b c e = ⊎_elim (λ q. let z : b ≡ c = sym q ∙ e in rw z same) upper (lower-cases b)
  where
    upper : (65 ≤ b) × (b ≤ 90) × (lower b ≡ b + 32) → Letter b c
    upper q =
        let i : b ≡ 65 + (b - 65) = omega arith in
        let j : c ≡ 97 + (b - 65) = omega arith in
        rw (i, j) (capital (b - 65) (omega arith))

-- a word of small letters is its bytes in lower case
abbrev pub small : String → Bool
small s = all is_small (bytes s)

letters : {s : String} {l : List ℕ} → small s ≡ true → Word s l → map lower l ≡ bytes s
letters h end = refl
letters h (letter {c} e w) = let p = letter-lower (both h).0 e in let q = letters (both {a = is_small (code c)} h).1 w in cc

spelled : (s : String) (l : List ℕ) → map lower l ≡ bytes s → Word s l
spelled empty [] e = end
spelled empty (b ∷ l) e = absurd (let z : ◌≡◌ {A = ℕ} 0 1 = cc in omega arith)
spelled (c then s) [] e = absurd (let z : ◌≡◌ {A = ℕ} 0 1 = cc in omega arith)
spelled (c then s) (b ∷ l) e = letter (lower-letter b (code c) (cc)) (spelled s l (cc))

matched : (l k : List ℕ) → got tt k ≡ keyword_of (map lower l) (l ++ k)
unfolding keyword_of peek_of rest_of
matched [] k = refl
matched (b ∷ l) k = rw (eq-eqb (lower b) (lower b) refl) (matched l k)

pub word-reads : {s : String} {l : List ℕ} (k : List ℕ) → small s ≡ true → Word s l → got tt k ≡ keyword_of (bytes s) (l ++ k)
word-reads {l} k h w = rw (← letters h w) (matched l k)

-- a word w, with no byte 0, that was found
record Found (w l k : List ℕ) : Type 0 where
  word : List ℕ
  lowered : map lower word ≡ w
  joined : word ++ k ≡ l

found-more : {k : List ℕ} (x : ℕ) (w l : List ℕ) → 0 < x → lower (peek_of l) ≡ x → Found w (rest_of l) k → Found (x ∷ w) l k
unfolding peek_of rest_of lower
found-more x w [] e p h = absurd (omega arith)
found-more x w (b ∷ l) e p h = record { word = b ∷ h.word; lowered = cc (p, h.lowered); joined = ap (λ z. b ∷ z) h.joined }

found : {k : List ℕ} (w l : List ℕ) → all (ltb 0) w ≡ true → got tt k ≡ keyword_of w l → Found w l k
unfolding keyword_of
found [] l e h = record { word = []; lowered = refl; joined = cc }
found (x ∷ w) l e h =
    let q = keyword-letter x w l h in found-more x w l (ltb-true _ _ (both e).0) q.0 (found w (rest_of l) (both {a = ltb 0 x} e).1 q.1)

-- a word without byte 0
abbrev pub whole : String → Bool
whole s = all (ltb 0) (bytes s)

pub reads_word : (s : String) → whole s ≡ true → (l : List ℕ) → Reads (λ w _. Word s w) l (keyword_of (bytes s) l)
reads_word s e l = go (keyword_of (bytes s) l) refl
  where
    go : (r : Read (Unit {0})) → r ≡ keyword_of (bytes s) l → Reads (λ w _. Word s w) l r
    go (got u k) h = let w = found (bytes s) l e h in some w.word (spelled s w.word w.lowered) w.joined
    go refused h = nothing

-- a word that stands for a value
pub reads-for : {A : Type 0} (R : List ℕ → A → Type 0) (s : String) (a : A) → whole s ≡ true → ((w : List ℕ) → Word s w → R w a)
    → (l : List ℕ) → Reads R l (word_for s a l)
reads-for R s a e f l = reads-map R (λ _. a) (λ _ w h. f w h) (reads_word s e l)

-- whether a is a word of small letters, and none of a and b begins the other
abbrev pub apart : String → String → Bool
apart a b = small a && not (begins (bytes a) (bytes b) || begins (bytes b) (bytes a))

pub unlike : {a : String} {l : List ℕ} (b : String) (k : List ℕ) → apart a b ≡ true → Word a l → refused ≡ keyword_of (bytes b) (l ++ k)
unlike {a} {l} b k h w = go (keyword_of (bytes b) (l ++ k)) refl
  where
    go : (r : Read (Unit {0})) → r ≡ keyword_of (bytes b) (l ++ k) → refused ≡ r
    go (got u m) e =
        absurd (true≢false (sym (two-words (bytes a) (bytes b) (l ++ k) (word-reads k (both h).0 w) e) ∙ not-true _ (both {a = small a} h).1))
    go refused e = refl

-- a word does not stand where its first letter does not
pub word_first : (x : ℕ) (w l : List ℕ) → (lower (peek_of l) ≡ x → ⊥) → refused ≡ keyword_of (x ∷ w) l
unfolding keyword_of
word_first x w l h = rw (ne_eqb _ _ h)

-- a word that begins with a letter
abbrev pub high : String → Bool
high empty = false
high (c then s) = ltb 57 (code c)

pub word-high : {s : String} {l : List ℕ} (k : List ℕ) → high s ≡ true → Word s l → 57 < peek_of (l ++ k)
unfolding peek_of
word-high k h end = absurd (false≢true h)
word-high k h (letter {c} e w) = go (ltb-true 57 (code c) h) e
  where
    go : {b c : ℕ} → 57 < c → Letter b c → 57 < b
    go h same = h
    go h (capital i s) = omega arith

-- and none stands where a sign, a digit or a point does
pub not-letter : (s : String) (l : List ℕ) → high s ≡ true → peek_of l < 58 → refused ≡ keyword_of (bytes s) l
not-letter empty l h n = absurd (false≢true h)
not-letter (c then s) l h n =
    word_first (code c) (bytes s) l (λ e. let z = first-high (peek_of l) (code c) e (ltb-true 57 (code c) h) in omega arith)

-- ---- no comma
abbrev pub plain : String → Bool
plain s = all (λ c. not (eqb c 44)) (bytes s)

pub not-comma : (b : ℕ) → (b ≡ 44 → ⊥) → not_comma b ≡ true
unfolding not_comma
not-comma b h = rw (ne_eqb b 44 h)

pub word-plain : {s : String} {l : List ℕ} → plain s ≡ true → Word s l → Every (Is not_comma) l
unfolding not_comma
word-plain h end = none
word-plain h (letter {c} e w) = more (go (both h).0 e) (word-plain (both {a = not (eqb (code c) 44)} h).1 w)
  where
    go : {b c : ℕ} → not (eqb c 44) ≡ true → Letter b c → not_comma b ≡ true
    go h same = h
    go h (capital i s) = not-comma (65 + i) (λ q. omega arith)

pub space-plain : {l : List ℕ} → Space l → Every (Is not_comma) l
space-plain w = every-sub (Is not_comma) (λ b e. not-comma b (λ q. let h = white_low e in omega arith)) w

pub gap-plain : {l : List ℕ} → Gap l → Every (Is not_comma) l
gap-plain (gap e t) = space-plain (more e t)
