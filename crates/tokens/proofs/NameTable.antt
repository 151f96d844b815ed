-- The names: no one begins another, so the order of the table does not matter, and the first letter leaves only few of them.
-- Assumes nothing.
use mathlib.Core.Path.{◌≡◌, refl, sym, ap, ◌∙◌}
use mathlib.Core.Bool.{Bool, true, false, cond, not, ◌&&◌, ◌||◌, true≢false, false≢true}
use mathlib.Core.List.{List, [], ◌∷◌}
use Prim.Native.Nat.{ℕ, zero, suc, ◌<◌}
use native.Mathlib.Omega.{arith}
use lib.Dec.{eqb}
use lib.ListN.{length, get_or}
use borrow.Author.Tests.{eq-eqb, ne_eqb}
use Rattle.gradient.specs.Lists.{all}
use Rattle.text.specs.Text.{peek_of, rest_of, lower, Read, got, refused, ◌>>=◌, ◌or_read◌, keyword_of}
use Rattle.text.specs.View.{bytes_for}
use Rattle.text.proofs.Laws.{got-refused, keyword-letter}
use Rattle.gradient.specs.declared.Color.{Color}
use Rattle.tokens.specs.Color.{Row, color_names, row_at, row_of, named_of, begins, apart}

pub both : {a b : Bool} → (a && b) ≡ true → (a ≡ true) × (b ≡ true)
both {a = true} e = (refl, e)
both {a = false} e = absurd (false≢true e)

-- what holds of each element of a list holds at each place
at_each : {A : Type 0} (p : A → Bool) (l : List A) (d : A) → all p l ≡ true → (i : ℕ) → i < length l → p (get_or l i d) ≡ true
at_each p [] d t i h = absurd (omega arith)
at_each p (x ∷ l) d t zero h = (both t).0
at_each p (x ∷ l) d t (suc i) h = at_each p l d (both {a = p x} t).1 i (omega arith)

-- of two words that stand at the front of one text, one begins the other
pub two-words : {k m : List ℕ} (a b l : List ℕ) → got tt k ≡ keyword_of a l → got tt m ≡ keyword_of b l → (begins a b || begins b a) ≡ true
unfolding begins
two-words [] b l p q = refl
two-words (x ∷ a) [] l p q = refl
two-words (x ∷ a) (y ∷ b) l p q =
    let u = keyword-letter x a l p in
    let v = keyword-letter y b l q in
    let e : x ≡ y = sym u.0 ∙ v.0 in
    rw (eq-eqb x y e, eq-eqb y x (sym e)) (two-words a b (rest_of l) u.1 v.1)

-- the seventeen names: by computation, no one begins another
pub names_apart : apart color_names ≡ true
unfolding apart begins color_names
names_apart = refl

pub names-long : length color_names ≡ 17
unfolding color_names
names-long = refl

row_word : {x : Color} {k : List ℕ} (w : Row) (l : List ℕ) → got x k ≡ row_of w l → got tt k ≡ keyword_of w.name l
unfolding row_of
row_word {x} {k} w l h = go (keyword_of w.name l) h
  where
    go : (r : Read (Unit {0})) → got x k ≡ (r >>= λ _ m. got w.color m) → got tt k ≡ r
    go (got u m) e = let q : k ≡ m = cc in ap (λ (z : List ℕ). got tt z) q
    go refused e = absurd (got-refused e)

-- so at most one of them stands at the front of a text, and it is found whatever the order of the table
any-row : {x : Color} {k : List ℕ} (l : List ℕ) (d : Row) (t : List Row) → apart t ≡ true → (i : ℕ) → i < length t
    → got x k ≡ row_of (get_or t i d) l → got x k ≡ named_of t l
unfolding named_of apart
any-row l d [] a i h e = absurd (omega arith)
any-row l d (w ∷ t) a zero h e = rw (← e)
any-row {x} {k} l d (w ∷ t) a (suc i) h e = go (row_of w l) refl (any-row l d t ok.1 i (omega arith) e)
  where
    clear : Row → Bool
    clear v = not (begins w.name v.name || begins v.name w.name)

    ok : (all clear t ≡ true) × (apart t ≡ true)
    ok = both a

    go : (r : Read Color) → row_of w l ≡ r → got x k ≡ named_of t l → got x k ≡ (r or_read named_of t l)
    go (got y m) p q =
        let one : (begins w.name (get_or t i d).name || begins (get_or t i d).name w.name) ≡ true = two-words _ _ l (row_word w l (sym p)) (row_word (get_or t i d) l e) in
        absurd (false≢true (sym (ap not one) ∙ at_each clear t d ok.0 i (omega arith)))
    go refused p q = q

pub name-found : {x : Color} {k : List ℕ} (l : List ℕ) (i : ℕ) → i < 17 → got x k ≡ row_of (row_at i) l → got x k ≡ named_of color_names l
name-found l i h e = any-row l _ color_names names_apart i (omega (arith, names-long)) e

-- ---- the names by their first letter: whether a name begins with x, and the rows whose names do
abbrev leads : ℕ → List ℕ → Bool
leads x [] = true
leads x (k ∷ w) = eqb x k

abbrev only : ℕ → List Row → List Row
only x [] = []
only x (w ∷ t) = cond (leads x w.name) (w ∷ only x t) (only x t)

pub or-none : (r : Read Color) → r ≡ (r or_read refused)
or-none (got v k) = refl
or-none refused = refl

module _ (l : List ℕ) (x : ℕ) (e : x ≡ lower (peek_of l)) where
  other-letter : (w : Row) → leads x w.name ≡ false → row_of w l ≡ refused
  unfolding row_of keyword_of
  other-letter w h = rw (go w.name h)
    where
      go : (n : List ℕ) → leads x n ≡ false → keyword_of n l ≡ refused
      go [] q = absurd (true≢false q)
      go (k ∷ n) q = rw (← e, q)

  by-letter : (t : List Row) → named_of (only x t) l ≡ named_of t l
  unfolding named_of
  by-letter [] = refl
  by-letter (w ∷ t) = go (leads x w.name) refl (by-letter t)
    where
      go : (b : Bool) → leads x w.name ≡ b → named_of (only x t) l ≡ named_of t l
          → named_of (cond b (w ∷ only x t) (only x t)) l ≡ (row_of w l or_read named_of t l)
      go true q h = rw h
      go false q h = rw (other-letter w q, h)

  pub these-names : {t : List Row} → only x color_names ≡ t → named_of t l ≡ named_of color_names l
  these-names q = ap (λ t. named_of t l) (sym q) ∙ by-letter color_names

  -- what the code finds of the one name, or of the two
  module _ {w : Row} where
    pub one_name : only x color_names ≡ w ∷ [] → {v : Color} {r : Read Color} → v ≡ w.color → r ≡ bytes_for w.name v l → r ≡ named_of color_names l
    unfolding named_of row_of
    one_name q p h = h ∙ ap (λ v. bytes_for w.name v l) p ∙ or-none _ ∙ these-names q

    pub two_names : {v : Row} → only x color_names ≡ w ∷ v ∷ [] → (bytes_for w.name w.color l or_read bytes_for v.name v.color l) ≡ named_of color_names l
    unfolding named_of row_of
    two_names {v} q = ap (λ (r : Read Color). bytes_for w.name w.color l or_read r) (or-none (bytes_for v.name v.color l)) ∙ these-names q

-- a letter that no name begins with
abbrev NoneLeads : ℕ → List Row → Type 0
NoneLeads x [] = Unit {0}
NoneLeads x (w ∷ t) = (leads x w.name ≡ false) × NoneLeads x t

none-leads : (x : ℕ) (t : List Row) → NoneLeads x t → only x t ≡ []
none-leads x [] h = refl
none-leads x (w ∷ t) h = rw (h.0, none-leads x t h.1)

pub no-letter : (x : ℕ) → (x ≡ 97 → ⊥) → (x ≡ 98 → ⊥) → (x ≡ 102 → ⊥) → (x ≡ 103 → ⊥) → (x ≡ 108 → ⊥) → (x ≡ 109 → ⊥) → (x ≡ 110 → ⊥)
    → (x ≡ 111 → ⊥) → (x ≡ 112 → ⊥) → (x ≡ 114 → ⊥) → (x ≡ 115 → ⊥) → (x ≡ 116 → ⊥) → (x ≡ 119 → ⊥) → (x ≡ 121 → ⊥) → only x color_names ≡ []
unfolding color_names
no-letter x a b f g l m n o p r s t w y =
    none-leads x color_names (
      ne_eqb x 97 a,
      (
        ne_eqb x 98 b,
        (
          ne_eqb x 98 b,
          (
            ne_eqb x 102 f,
            (
              ne_eqb x 103 g,
              (
                ne_eqb x 103 g,
                (
                  ne_eqb x 108 l,
                  (
                    ne_eqb x 109 m,
                    (
                      ne_eqb x 110 n,
                      (
                        ne_eqb x 111 o,
                        (
                          ne_eqb x 112 p,
                          (
                            ne_eqb x 114 r,
                            (ne_eqb x 115 s, (ne_eqb x 116 t, (ne_eqb x 119 w, (ne_eqb x 121 y, (ne_eqb x 116 t, tt))))),
                          ),
                        ),
                      ),
                    ),
                  ),
                ),
              ),
            ),
          ),
        ),
      ),
    )
