-- Laws of the rest of a text and of readings, each over any class of bytes and any type of value.
-- Assumes nothing.
use mathlib.Core.Path.{◌≡◌, refl, sym, ap, ◌∙◌}
use mathlib.Core.List.{List, [], ◌∷◌, ◌++◌}
use mathlib.Core.Bool.{Bool, true, false, cond, ◌&&◌, true≢false, false≢true}
use Prim.Native.Nat.{ℕ, ◌+◌, ◌≤◌, ◌<◌}
use Prim.Native.Char.{Char, code}
use native.Mathlib.Numerals.{add-one}
use native.Mathlib.Omega.{arith}
use lib.Dec.{leb, eqb, eqb-suc-zero}
use lib.ListN.{length, drop, get_or, drop_of_length-le}
use lib.Seq.{drop-cons}
use borrow.Author.Tests.{eq-eqb, ne_eqb, le-leb, lt-leb, leb-true, eqb-true}
use denote.Bor.{Bor}
use Rattle.std.specs.Prelude.{Option, Some, None}
use Rattle.std.specs.Option.{option_or}
use Rattle.text.specs.View.{view}
use Rattle.text.specs.Text.{in_range, peek_of, rest_of, is_nil, past, run, is_space, lower, keyword_of, Read, got, refused, ◌>>=◌, ◌or_read◌, map_read}

-- a reading after a reading, by what the first one finds
module _ {A B : Type 0} (f : A → List ℕ → Read B) {r : Read A} where
  pub bind-got : {a : A} {k : List ℕ} {x : Read B} → got a k ≡ r → x ≡ f a k → x ≡ (r >>= f)
  bind-got h e = rw (← h) e

  pub bind-refused : refused ≡ r → refused ≡ (r >>= f)
  bind-refused h = rw (← h)

-- readings one after the other: grouped either way, after a change, and with equal continuations
pub bind-bind : {A B C : Type 0} (f : A → List ℕ → Read B) (g : B → List ℕ → Read C) (r : Read A)
    → ((r >>= f) >>= g) ≡ (r >>= λ a l. f a l >>= g)
bind-bind f g (got a l) = refl
bind-bind f g refused = refl

pub bind-map : {A B C : Type 0} (g : A → B) (f : B → List ℕ → Read C) (r : Read A) → (map_read g r >>= f) ≡ (r >>= λ a l. f (g a) l)
bind-map g f (got a l) = refl
bind-map g f refused = refl

pub bind-same : {A B : Type 0} (f f' : A → List ℕ → Read B) → ((a : A) (l : List ℕ) → f a l ≡ f' a l) → (r : Read A) → (r >>= f) ≡ (r >>= f')
bind-same f f' e (got a l) = e a l
bind-same f f' e refused = refl

-- one reading or another, by what the first one finds
module _ {A : Type 0} {r : Read A} where
  pub or-first : {a : A} {k : List ℕ} (t : Read A) → got a k ≡ r → got a k ≡ (r or_read t)
  or-first t h = rw (← h)

  pub or-second : {x t : Read A} → refused ≡ r → x ≡ t → x ≡ (r or_read t)
  or-second h e = rw (← h) e

-- three readings and four, one or another of them, grouped the other way
module _ {A : Type 0} where
  pub or-three : (r t u : Read A) → ((r or_read t) or_read u) ≡ (r or_read t or_read u)
  or-three (got a l) t u = refl
  or-three refused t u = refl

  pub or-four : (r t u v : Read A) → (((r or_read t) or_read u) or_read v) ≡ (r or_read t or_read u or_read v)
  or-four (got a l) t u v = refl
  or-four refused t u v = or-three t u v

-- four answers of the code, one or another of them
or_view : {A : Type 0} (a b : Option (A × Bor (List ℕ))) → view (option_or a b) ≡ (view a or_read view b)
or_view (Some (x, rest)) b = refl
or_view None b = refl

pub any-of-four : {A : Type 0} (a b c d : Option (A × Bor (List ℕ))) {m n o : Option (A × Bor (List ℕ))} {r t u v : Read A}
    → m ≡ option_or a b → n ≡ option_or m c → o ≡ option_or n d → view a ≡ r → view b ≡ t → view c ≡ u → view d ≡ v → view o ≡ (r or_read t or_read u or_read v)
any-of-four a b c d {m = m} {n = n} {r = r} {t = t} {u = u} {v = v} e f g ha hb hc hd =
    rw (g, or_view n d, f, or_view m c, e, or_view a b, ha, hb, hc, hd) (or-four r t u v)

-- a change of what is got goes through the ways in which readings are made of readings
pub map-bind : {A B C D : Type 0} (h : C → D) (g : A → B) (f : A → List ℕ → Read C) (f' : B → List ℕ → Read D)
    → ((a : A) (l : List ℕ) → map_read h (f a l) ≡ f' (g a) l) → (r : Read A) → map_read h (r >>= f) ≡ (map_read g r >>= f')
map-bind h g f f' e (got a l) = e a l
map-bind h g f f' e refused = refl

pub map-inside : {A C D : Type 0} (h : C → D) (f : A → List ℕ → Read C) (f' : A → List ℕ → Read D)
    → ((a : A) (l : List ℕ) → map_read h (f a l) ≡ f' a l) → (r : Read A) → map_read h (r >>= f) ≡ (r >>= f')
map-inside h f f' e (got a l) = e a l
map-inside h f f' e refused = refl

pub map-or : {A B : Type 0} (h : A → B) (r t : Read A) → map_read h (r or_read t) ≡ (map_read h r or_read map_read h t)
map-or h (got a l) t = refl
map-or h refused t = refl

pub map-cond : {A B : Type 0} (h : A → B) (t : Bool) (x y : Read A) → map_read h (cond t x y) ≡ cond t (map_read h x) (map_read h y)
map-cond h true x y = refl
map-cond h false x y = refl

pub map-map : {A B C : Type 0} (h : B → C) (g : A → B) (r : Read A) → map_read h (map_read g r) ≡ map_read (λ a. h (g a)) r
map-map h g (got a l) = refl
map-map h g refused = refl

pub map_same : {A : Type 0} (h : A → A) → ((a : A) → h a ≡ a) → (r : Read A) → map_read h r ≡ r
map_same h e (got a l) = ap (λ x. got x l) (e a)
map_same h e refused = refl

-- a reading either gets something or does not
pub got-refused : {A : Type 0} {a : A} {k : List ℕ} → got a k ≡ refused → ⊥
got-refused e = let w : ◌≡◌ {A = ℕ} 0 1 = cc in omega arith

-- P holds of what a reading gets, if it gets something
abbrev pub Gets : {A : Type 0} → (A → Type 0) → Read A → Type 0
Gets P (got a l) = P a
Gets P refused = Unit {0}

pub gets-is : {A : Type 0} (P : A → Type 0) {a : A} {k : List ℕ} {r : Read A} → got a k ≡ r → Gets P r → P a
gets-is P e p = rw (← e) at p

pub gets-map : {A B : Type 0} (P : A → Type 0) (Q : B → Type 0) (h : A → B) → ((a : A) → P a → Q (h a)) → (r : Read A) → Gets P r → Gets Q (map_read h r)
gets-map P Q h f (got a l) p = f a p
gets-map P Q h f refused p = tt

pub gets-mapped : {A B : Type 0} (Q : B → Type 0) (h : A → B) → ((a : A) → Q (h a)) → (r : Read A) → Gets Q (map_read h r)
gets-mapped Q h f (got a l) = f a
gets-mapped Q h f refused = tt

pub gets-bind : {A B : Type 0} (P : A → Type 0) (Q : B → Type 0) (f : A → List ℕ → Read B) → ((a : A) (l : List ℕ) → P a → Gets Q (f a l)) → (r : Read A) → Gets P r → Gets Q (r >>= f)
gets-bind P Q f g (got a l) p = g a l p
gets-bind P Q f g refused p = tt

pub gets-or : {A : Type 0} (P : A → Type 0) (r t : Read A) → Gets P r → Gets P t → Gets P (r or_read t)
gets-or P (got a l) t p q = p
gets-or P refused t p q = q

pub gets-cond : {A : Type 0} (P : A → Type 0) (b : Bool) (r t : Read A) → Gets P r → Gets P t → Gets P (cond b r t)
gets-cond P true r t p q = p
gets-cond P false r t p q = q

pub nil-length : {A : Type 0} (l : List A) → eqb (length l) 0 ≡ is_nil l
nil-length [] = refl
nil-length (x ∷ l) = eqb-suc-zero (length l)

-- a byte in a range of characters, below it, and above it
module _ (first last : Char) (b : ℕ) where
  pub in-range : code first ≤ b → b ≤ code last → in_range first last b ≡ true
  in-range h k = rw (le-leb (code first) b h, le-leb b (code last) k)

  pub below-range : b < code first → in_range first last b ≡ false
  below-range h = rw (lt-leb (code first) b h)

  pub above-range : code last < b → in_range first last b ≡ false
  above-range h = rw (lt-leb b (code last) h) (go (leb (code first) b))
    where
      go : (t : Bool) → (t && false) ≡ false
      go true = refl
      go false = refl

  pub range-bounds : in_range first last b ≡ true → (code first ≤ b) × (b ≤ code last)
  range-bounds h = go (leb (code first) b) refl h
    where
      go : (t : Bool) → leb (code first) b ≡ t → (t && leb b (code last)) ≡ true → (code first ≤ b) × (b ≤ code last)
      go true e k = (leb-true _ _ e, leb-true _ _ k)
      go false e k = absurd (false≢true k)

-- a class p of bytes that the end, 0, is not in: the text l begins with a byte of the class, or it does not
module _ (p : ℕ → Bool) (end : p 0 ≡ false) where
  pub past-on : (l : List ℕ) → p (peek_of l) ≡ true → past p (rest_of l) ≡ past p l
  unfolding past peek_of rest_of
  past-on [] h = refl
  past-on (b ∷ l) h = rw h

  pub rest-less : (l : List ℕ) → p (peek_of l) ≡ true → length (rest_of l) < length l
  unfolding peek_of rest_of
  rest-less [] h = absurd (true≢false (sym h ∙ end))
  rest-less (b ∷ l) h = omega arith

  pub past_stop : (l : List ℕ) → p (peek_of l) ≡ false → l ≡ past p l
  unfolding past peek_of rest_of
  past_stop [] h = refl
  past_stop (b ∷ l) h = rw h

  pub run-stop : (l : List ℕ) → p (peek_of l) ≡ false → run p l ≡ []
  unfolding run peek_of rest_of
  run-stop [] h = refl
  run-stop (b ∷ l) h = rw h

-- a run and what lies past it are the text
pub run_past : (p : ℕ → Bool) (l : List ℕ) → run p l ++ past p l ≡ l
unfolding run past
run_past p [] = refl
run_past p (b ∷ l) = go (p b) (run_past p l)
  where
    go : (t : Bool) → run p l ++ past p l ≡ l → cond t (b ∷ run p l) [] ++ cond t (past p l) (b ∷ l) ≡ b ∷ l
    go true h = ap (λ x. b ∷ x) h
    go false h = refl

pub space-end : is_space 0 ≡ false
unfolding is_space
space-end = refl

-- a word w from its letter i on, at the front of the text l
module _ (w : List ℕ) (i : ℕ) (l : List ℕ) where
  pub keyword-on : i < length w → lower (peek_of l) ≡ get_or w i 0 → keyword_of (drop (i + 1) w) (rest_of l) ≡ keyword_of (drop i w) l
  unfolding keyword_of
  keyword-on h e = rw (add-one, drop-cons w i 0, eq-eqb _ _ e)

  pub keyword-not : i < length w → (lower (peek_of l) ≡ get_or w i 0 → ⊥) → refused ≡ keyword_of (drop i w) l
  unfolding keyword_of
  keyword-not h e = rw (drop-cons w i 0, ne_eqb _ _ e)

  pub keyword-end : length w ≤ i → got tt l ≡ keyword_of (drop i w) l
  unfolding keyword_of
  keyword-end h = rw (drop_of_length-le w)

-- a word that stands at the front of the text, letter after letter
pub keyword-letter : {k : List ℕ} (x : ℕ) (w l : List ℕ) → got tt k ≡ keyword_of (x ∷ w) l → (lower (peek_of l) ≡ x) × (got tt k ≡ keyword_of w (rest_of l))
unfolding keyword_of
keyword-letter {k} x w l h = go (eqb (lower (peek_of l)) x) refl h
  where
    go : (t : Bool) → eqb (lower (peek_of l)) x ≡ t → got tt k ≡ cond t (keyword_of w (rest_of l)) refused → (lower (peek_of l) ≡ x) × (got tt k ≡ keyword_of w (rest_of l))
    go true e q = (eqb-true _ _ e, q)
    go false e q = absurd (got-refused q)
