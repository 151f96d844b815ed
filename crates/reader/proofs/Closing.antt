-- Laws of the closing bracket: it is the last byte of the text that is no white space. Assumes nothing.
use mathlib.Core.Path.{◌≡◌, refl, sym, ap, ◌∙◌}
use mathlib.Core.Bool.{Bool, true, false, cond, ◌&&◌, false≢true}
use mathlib.Core.List.{List, [], ◌∷◌, ◌++◌}
use Prim.Native.Nat.{ℕ, zero, suc, ◌+◌, ◌-◌, ◌≤◌, ◌<◌}
use native.Mathlib.Omega.{arith}
use lib.Dec.{eqb}
use lib.ListN.{length, get_or, take, drop, take-append-drop, length-drop}
use lib.Seq.{drop-cons, drop-drop}
use borrow.Author.Tests.{eqb-true, eq-eqb, ne_eqb}
use Rattle.std.proofs.lemmas.List.{get_or-take, get_or-drop}
use Rattle.std.proofs.lemmas.List.{take-take}
use Rattle.std.specs.Char.{is_ascii_whitespace}
use Rattle.text.proofs.Space.{same_space}
use Rattle.std.specs.Str.{IsTrimAsciiEnd, IsAsciiWhitespaceFrom}
use Rattle.text.specs.Text.{is, is_nil, is_space, past, peek_of, rest_of, Read, got, refused, map_read}
use Rattle.reader.specs.Text.{closes_of, body_of}

-- white space alone
abbrev pub Blank : List ℕ → Type 0
Blank l = is_nil (past is_space l) ≡ true

bracket : (b : ℕ) → b ≡ 41 → is_space b ≡ false
unfolding is_space
bracket b e = rw e

blank-more : (b : ℕ) (l : List ℕ) → is_space b ≡ true → Blank l → Blank (b ∷ l)
unfolding past
blank-more b l e h = rw (e, h)

blank-rest : (b : ℕ) (l : List ℕ) → Blank (b ∷ l) → (is_space b ≡ true) × Blank l
unfolding past
blank-rest b l h = go (is_space b) refl h
  where
    go : (t : Bool) → is_space b ≡ t → is_nil (cond t (past is_space l) (b ∷ l)) ≡ true → (is_space b ≡ true) × Blank l
    go true e k = (e, k)
    go false e k = absurd (false≢true k)

blank-drop : (n : ℕ) (l : List ℕ) → Blank l → Blank (drop n l)
blank-drop zero l h = h
blank-drop (suc n) [] h = h
blank-drop (suc n) (b ∷ l) h = blank-drop n l (blank-rest b l h).1

blank-body : (l : List ℕ) → Blank l → refused ≡ body_of l
unfolding body_of closes_of peek_of rest_of
blank-body [] h = refl
blank-body (b ∷ l) h = rw (← blank-body l (blank-rest b l h).1) (go (eqb b 41) refl)
  where
    go : (t : Bool) → eqb b 41 ≡ t → ◌≡◌ {A = Read (List ℕ)} refused (cond (t && is_nil (past is_space l)) (got [] []) refused)
    go true e = absurd (false≢true (sym (bracket b (eqb-true b 41 e)) ∙ (blank-rest b l h).0))
    go false e = refl

-- a byte b that is no white space, after x and before white space alone
module _ (b : ℕ) (y : List ℕ) (h : is_space b ≡ false) (k : Blank y) where
  not-blank : (x : List ℕ) → is_nil (past is_space (x ++ b ∷ y)) ≡ false
  unfolding past
  not-blank [] = rw h
  not-blank (a ∷ x) = go (is_space a) (not-blank x)
    where
      go : (t : Bool) → is_nil (past is_space (x ++ b ∷ y)) ≡ false → is_nil (cond t (past is_space (x ++ b ∷ y)) (a ∷ (x ++ b ∷ y))) ≡ false
      go true e = e
      go false e = refl

  last_byte : (x : List ℕ) → cond (is ")" b) (got x []) refused ≡ body_of (x ++ b ∷ y)
  unfolding body_of closes_of peek_of rest_of
  last_byte [] = rw (k, ← blank-body y k) (go (eqb b 41))
    where
      go : (t : Bool) → ◌≡◌ {A = Read (List ℕ)} (cond t (got [] []) refused) (cond (t && true) (got [] []) refused)
      go true = refl
      go false = refl
  last_byte (a ∷ x) = rw (not-blank x, ← last_byte x) (go (eqb a 41) (eqb b 41))
    where
      go : (t u : Bool) → ◌≡◌ {A = Read (List ℕ)} (cond u (got (a ∷ x) []) refused) (cond (t && false) (got [] []) (map_read (λ body. a ∷ body) (cond u (got x []) refused)))
      go true true = refl
      go true false = refl
      go false true = refl
      go false false = refl

-- the text s from a place on, with white space alone from another place on
module _ (s : List ℕ) (from end : ℕ) (k : Blank (drop end s)) where
  -- the byte before that place
  module _ {i : ℕ} (e : suc i ≡ end) (h : i < length s) where
    close-last : from ≤ i → is_space (get_or s i 0) ≡ false → cond (is ")" (get_or s i 0)) (got (take (i - from) (drop from s)) []) refused ≡ body_of (drop from s)
    close-last f t =
        let g : from + (i - from) ≡ i = omega arith in
        let m : drop (i - from) (drop from s) ≡ get_or s i 0 ∷ drop (suc i) s = drop-drop (i - from) from s ∙ ap (λ (n : ℕ). drop n s) g ∙ drop-cons s i 0 h in
        last_byte (get_or s i 0) (drop (suc i) s) t (rw (sym e) at k) (take (i - from) (drop from s))
        ∙ ap body_of (ap (λ (l : List ℕ). take (i - from) (drop from s) ++ l) (sym m) ∙ take-append-drop (i - from) (drop from s))

blank-all : (l : List ℕ) → ((i : ℕ) → i < length l → is_space (get_or l i 0) ≡ true) → Blank l
unfolding past
blank-all [] h = refl
blank-all (b ∷ l) h = blank-more b l (h 0 (omega arith)) (blank-all l (λ i k. h (suc i) (omega (arith, k))))

-- the text s without the white space at its end: its first n bytes
module _ (s : List ℕ) (n : ℕ) (within : n ≤ length s) (from : IsAsciiWhitespaceFrom s n) where
  blank-from : Blank (drop n s)
  blank-from = blank-all (drop n s) (λ i k. let m : length (drop n s) ≡ length s - n = length-drop n s in
      rw (get_or-drop n s i 0) (sym (same_space _) ∙ from (n + i) (omega arith) (omega (arith, k, m))))

  module _ (stops : 0 < n → is_ascii_whitespace (get_or s (n - 1) 0) ≡ false) (some : 1 ≤ n) where
    trimmed-last : cond (eqb (get_or s (n - 1) 0) 41) (got (take (n - 1) s) []) refused ≡ body_of s
    trimmed-last =
        let e : suc (n - 1) ≡ n = omega arith in
        let z : n - 1 - 0 ≡ n - 1 = omega arith in
        rw z at (close-last s 0 n blank-from {i = n - 1} e (omega arith) (omega arith) (sym (same_space _) ∙ stops some))

-- r is what the code finds it to be
front : (s r : List ℕ) (n : ℕ) → r ≡ take n s → 1 ≤ n → (get_or r (n - 1) 0 ≡ get_or s (n - 1) 0) × (take (n - 1) r ≡ take (n - 1) s)
front s r n e k = rw e (get_or-take n s (n - 1) 0 (omega arith), take-take (n - 1) n s (omega arith))

pub body-got : (s r : List ℕ) → IsTrimAsciiEnd s r → 1 ≤ length r → get_or r (length r - 1) 0 ≡ 41 → got (take (length r - 1) r) [] ≡ body_of s
body-got s r (n, e, len, within, from, stops) k q =
    let m : 1 ≤ n = omega (arith, len, k) in
    let f = front s r n e m in
    let a : get_or s (n - 1) 0 ≡ 41 = sym f.0 ∙ rw len at q in
    rw (len, f.1) (rw (eq-eqb (get_or s (n - 1) 0) 41 a) at (trimmed-last s n within from stops m))

pub body-other : (s r : List ℕ) → IsTrimAsciiEnd s r → 1 ≤ length r → (get_or r (length r - 1) 0 ≡ 41 → ⊥) → refused ≡ body_of s
body-other s r (n, e, len, within, from, stops) k q =
    let m : 1 ≤ n = omega (arith, len, k) in
    let f = front s r n e m in
    let a : get_or s (n - 1) 0 ≡ 41 → ⊥ = λ x. q (rw len (f.0 ∙ x)) in
    rw (ne_eqb (get_or s (n - 1) 0) 41 a) at (trimmed-last s n within from stops m)

pub body-end : (s r : List ℕ) → IsTrimAsciiEnd s r → length r < 1 → refused ≡ body_of s
body-end s r (n, e, len, within, from, stops) k =
    let z : n ≡ 0 = omega (arith, len, k) in
    blank-body s (rw z at (blank-from s n within from))
