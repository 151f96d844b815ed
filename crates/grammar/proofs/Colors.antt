-- The definition of reading colors is the grammar's. Assumes nothing.
use mathlib.Core.Path.{◌≡◌, refl, sym, ap}
use mathlib.Core.List.{List, [], ◌∷◌, ◌++◌}
use mathlib.Core.Bool.{Bool, true, false, cond, ◌||◌, ◌&&◌, false≢true}
use mathlib.Core.Logic.{inl, inr}
use Prim.Native.Nat.{ℕ, ◌+◌, ◌*◌, ◌-◌, ◌≤◌, ◌<◌}
use Prim.Native.Char.{code}
use Prim.Native.String.{String}
use native.Mathlib.Omega.{arith}
use lib.ListN.{length}
use borrow.Author.Tests.{ne_eqb, eqb-true}
use Rattle.text.specs.Text.{bytes, is, in_range, peek_of, rest_of, past, run, lower, keyword_of, got, refused}
use Rattle.text.proofs.Laws.{bind-got, run_past, in-range, above-range, range-bounds}
use Rattle.gradient.specs.declared.Color.{Color}
use Rattle.tokens.specs.Number.{number_of, exact}
use Rattle.tokens.specs.Color.{begins, color, is_hex, hex_value, hex_color, hex_of, Row, color_names, row_at, row_of, named_of, color_of}
use Rattle.tokens.proofs.Hex.{hex-end, hex-below}
use Rattle.tokens.proofs.NameTable.{both, name-found}
use Rattle.stoplist.specs.View.{not_comma}
use Rattle.grammar.specs.Words.{Every, none, more, Letter, same, capital, Word, one}
use Rattle.grammar.specs.Colors.{rgba, pair, Name, Hex, ColorText}
use Rattle.grammar.proofs.Laws.{Is, Reads, some, nothing, behind, reads-or, reads-for, run-every, past-every, every-run, small, word-reads, unlike, word_first, word-high, whole, high, plain, apart, not-comma, word-plain}
use Rattle.grammar.proofs.Numbers.{number-none}

-- ---- hex digits
-- a hex digit of the grammar is one of the definition's, with the same value
record HexIs (b x : ℕ) : Type 0 where
  is-hex : is_hex b ≡ true
  value : hex_value b ≡ x
  plain : not_comma b ≡ true

hex-digit : (i : ℕ) → i < 10 → HexIs (48 + i) i
unfolding is_hex hex_value
hex-digit i h =
    let d = in-range "0" "9" (48 + i) (omega arith) (omega arith) in
    record { is-hex = rw d; value = rw d (omega arith); plain = not-comma (48 + i) (λ e. omega arith) }

hex-small : (i : ℕ) → i < 6 → HexIs (97 + i) (10 + i)
unfolding is_hex hex_value
hex-small i h =
    let d = above-range "0" "9" (97 + i) (omega arith) in
    let c = above-range "A" "F" (97 + i) (omega arith) in
    let s = in-range "a" "f" (97 + i) (omega arith) (omega arith) in
    record { is-hex = rw (d, c, s); value = rw (d, c, s) (omega arith); plain = not-comma (97 + i) (λ e. omega arith) }

hex-capital : (i : ℕ) → i < 6 → HexIs (65 + i) (10 + i)
unfolding is_hex hex_value
hex-capital i h =
    let d = above-range "0" "9" (65 + i) (omega arith) in
    let c = in-range "A" "F" (65 + i) (omega arith) (omega arith) in
    record { is-hex = rw (d, c); value = rw (d, c) (omega arith); plain = not-comma (65 + i) (λ e. omega arith) }

hex-is : {b x : ℕ} → Hex b x → HexIs b x
hex-is (Hex.digit i h) = hex-digit i h
hex-is (Hex.letter {b} i h e) = go (97 + i) refl e
  where
    go : {b : ℕ} (c : ℕ) → c ≡ 97 + i → Letter b c → HexIs b (10 + i)
    go c q same = rw q (hex-small i h)
    go c q (capital j s) = let z : j ≡ i = omega arith in rw z (hex-capital i h)

module _ (b x i : ℕ) (h : i < 6) (v : x ≡ 10 + i) where
  small-hex : b ≡ 97 + i → Hex b x
  small-hex e = rw (v, e) (Hex.letter i h same)

  capital-hex : b ≡ 65 + i → Hex b x
  capital-hex e = rw (v, e) (Hex.letter i h (capital i (omega arith)))

digit-hex : (b x : ℕ) → x < 10 → b ≡ 48 + x → Hex b x
digit-hex b x h e = rw e (Hex.digit x h)

is-hex : (b : ℕ) → is_hex b ≡ true → Hex b (hex_value b)
unfolding is_hex hex_value
is-hex b h = go (in_range "0" "9" b) (in_range "A" "F" b) (in_range "a" "f" b) refl refl refl h
  where
    go : (d c s : Bool) → in_range "0" "9" b ≡ d → in_range "A" "F" b ≡ c → in_range "a" "f" b ≡ s → (d || c || s) ≡ true
        → Hex b (cond d (b - 48) (cond c (b - 65 + 10) (cond s (b - 97 + 10) 0)))
    go true c s p q r e = let z = range-bounds "0" "9" b p in digit-hex b (b - 48) (omega arith) (omega arith)
    go false true s p q r e = let z = range-bounds "A" "F" b q in capital-hex b (b - 65 + 10) (b - 65) (omega arith) (omega arith) (omega arith)
    go false false true p q r e = let z = range-bounds "a" "f" b r in small-hex b (b - 97 + 10) (b - 97) (omega arith) (omega arith) (omega arith)
    go false false false p q r e = absurd (false≢true e)

-- ---- sound
too_many : (n : ℕ) (l k : List ℕ) → 8 < n → refused ≡ hex_color n l k
unfolding hex_color
too_many n l k h = rw (ne_eqb n 3 (λ e. omega arith), ne_eqb n 4 (λ e. omega arith), ne_eqb n 6 (λ e. omega arith), ne_eqb n 8 (λ e. omega arith))

doubled : (x : ℕ) → 17 * x ≡ pair x x
doubled x = omega arith

digits : (d k : List ℕ) → Every (Is is_hex) d → Reads (λ w v. ColorText (code "#" ∷ w) v) (d ++ k) (hex_color (length d) (d ++ k) k)
unfolding hex_color
digits d k none = nothing
digits d k (more a none) = nothing
digits d k (more a (more b none)) = nothing
digits d k (more {b = x} a (more {b = y} b (more {b = z} c none))) =
    rw (doubled (hex_value x), doubled (hex_value y), doubled (hex_value z)) (some _ (ColorText.three (is-hex x a) (is-hex y b) (is-hex z c)) refl)
digits d k (more {b = x} a (more {b = y} b (more {b = z} c (more {b = t} e none)))) =
    rw (doubled (hex_value x), doubled (hex_value y), doubled (hex_value z), doubled (hex_value t))
    (some _ (ColorText.four (is-hex x a) (is-hex y b) (is-hex z c) (is-hex t e)) refl)
digits d k (more a (more b (more c (more e (more f none))))) = nothing
digits d k (more a (more b (more c (more e (more f (more g none)))))) =
    some _ (ColorText.six (is-hex _ a) (is-hex _ b) (is-hex _ c) (is-hex _ e) (is-hex _ f) (is-hex _ g)) refl
digits d k (more a (more b (more c (more e (more f (more g (more h none))))))) = nothing
digits d k (more a (more b (more c (more e (more f (more g (more h (more i none)))))))) =
    some _ (ColorText.eight (is-hex _ a) (is-hex _ b) (is-hex _ c) (is-hex _ e) (is-hex _ f) (is-hex _ g) (is-hex _ h) (is-hex _ i)) refl
digits d k (more a (more b (more c (more e (more f (more g (more h (more i (more j t))))))))) =
    rw (← too_many (length d) (d ++ k) k (omega arith)) nothing

-- rows whose names are colors of the grammar
data Known : List Row → Type 0 where
  end : Known []
  row : {v : Color} {t : List Row} (s : String) → whole s ≡ true → ((w : List ℕ) → Word s w → ColorText w v) → Known t
      → Known (record { name = bytes s; color = v } ∷ t)

known : Known color_names
unfolding color_names
known =
    row "aqua" refl (λ _ w. ColorText.named (one Name.aqua w))
    (row "black" refl (λ _ w. ColorText.named (one Name.black w))
    (row "blue" refl (λ _ w. ColorText.named (one Name.blue w))
    (row "fuchsia" refl (λ _ w. ColorText.named (one Name.fuchsia w))
    (row "gray" refl (λ _ w. ColorText.named (one Name.gray w))
    (row "green" refl (λ _ w. ColorText.named (one Name.green w))
    (row "lime" refl (λ _ w. ColorText.named (one Name.lime w))
    (row "maroon" refl (λ _ w. ColorText.named (one Name.maroon w))
    (row "navy" refl (λ _ w. ColorText.named (one Name.navy w))
    (row "olive" refl (λ _ w. ColorText.named (one Name.olive w))
    (row "purple" refl (λ _ w. ColorText.named (one Name.purple w))
    (row "red" refl (λ _ w. ColorText.named (one Name.red w))
    (row "silver" refl (λ _ w. ColorText.named (one Name.silver w))
    (row "teal" refl (λ _ w. ColorText.named (one Name.teal w))
    (row "white" refl (λ _ w. ColorText.named (one Name.white w))
    (row "yellow" refl (λ _ w. ColorText.named (one Name.yellow w))
    (row "transparent" refl (λ _ w. ColorText.transparent w)
    end))))))))))))))))

reads-named : {t : List Row} → Known t → (l : List ℕ) → Reads ColorText l (named_of t l)
unfolding named_of row_of
reads-named end l = nothing
reads-named (row {v} s e f t) l = reads-or (reads-for ColorText s v e f l) (reads-named t l)

pub reads-color : (l : List ℕ) → Reads ColorText l (color_of l)
unfolding color_of hex_of peek_of rest_of
reads-color [] = reads-named known []
reads-color (b ∷ l) = go (is "#" b) refl
  where
    go : (t : Bool) → is "#" b ≡ t → Reads ColorText (b ∷ l) (cond t (hex_color (length (run is_hex l)) l (past is_hex l)) (named_of color_names (b ∷ l)))
    go true e =
        behind ColorText (code "#" ∷ []) (b ∷ l) (rw (eqb-true b (code "#") e))
        (rw (run_past is_hex l) at (digits (run is_hex l) (past is_hex l) (run-every is_hex l)))
    go false e = reads-named known (b ∷ l)

-- ---- complete
low-hex : (k : List ℕ) → peek_of k ≤ 32 → is_hex (peek_of k) ≡ false
low-hex k h = sym (hex-below (peek_of k) (omega arith))

hex-reads : {d : List ℕ} {v : Color} (k : List ℕ) → peek_of k ≤ 32 → Every (Is is_hex) d → got v k ≡ hex_color (length d) (d ++ k) k
    → got v k ≡ color_of (code "#" ∷ (d ++ k))
unfolding color_of hex_of peek_of rest_of
hex-reads k h w e = rw (every-run is_hex hex-end k (low-hex k h) w, past-every is_hex hex-end k (low-hex k h) w) e

-- the place of a name in the definition's table; it is a word of small letters that begins with one, has no comma and is not `to`
record NameIs (s : String) (v : Color) : Type 0 where
  place : ℕ
  below : place < 17
  row : row_at place ≡ record { name = bytes s; color = v }
  tests : (high s && plain s && apart s "to") ≡ true

name-is : {s : String} {v : Color} → Name s v → NameIs s v
unfolding color_names begins
name-is Name.aqua = record { place = 0; below = omega arith; row = refl; tests = refl }
name-is Name.black = record { place = 1; below = omega arith; row = refl; tests = refl }
name-is Name.blue = record { place = 2; below = omega arith; row = refl; tests = refl }
name-is Name.fuchsia = record { place = 3; below = omega arith; row = refl; tests = refl }
name-is Name.gray = record { place = 4; below = omega arith; row = refl; tests = refl }
name-is Name.green = record { place = 5; below = omega arith; row = refl; tests = refl }
name-is Name.lime = record { place = 6; below = omega arith; row = refl; tests = refl }
name-is Name.maroon = record { place = 7; below = omega arith; row = refl; tests = refl }
name-is Name.navy = record { place = 8; below = omega arith; row = refl; tests = refl }
name-is Name.olive = record { place = 9; below = omega arith; row = refl; tests = refl }
name-is Name.purple = record { place = 10; below = omega arith; row = refl; tests = refl }
name-is Name.red = record { place = 11; below = omega arith; row = refl; tests = refl }
name-is Name.silver = record { place = 12; below = omega arith; row = refl; tests = refl }
name-is Name.teal = record { place = 13; below = omega arith; row = refl; tests = refl }
name-is Name.white = record { place = 14; below = omega arith; row = refl; tests = refl }
name-is Name.yellow = record { place = 15; below = omega arith; row = refl; tests = refl }

transparent-is : NameIs "transparent" (rgba 0 0 0 0)
unfolding color_names begins
transparent-is = record { place = 16; below = omega arith; row = refl; tests = refl }

-- what is said of a color by its name
module _ {s : String} {v : Color} (n : NameIs s v) {l : List ℕ} (w : Word s l) (k : List ℕ) where
  name-high : 57 < peek_of (l ++ k)
  name-high = word-high k (both {b = plain s} (both n.tests).0).0 w

  name-small : small s ≡ true
  name-small = (both {a = small s} (both {a = high s && plain s} n.tests).1).0

  name-reads : got v k ≡ color_of (l ++ k)
  unfolding color_of row_of
  name-reads =
      rw (ne_eqb (peek_of (l ++ k)) (code "#") (λ e. let h = name-high in omega arith))
      (name-found (l ++ k) n.place n.below (rw n.row (bind-got _ (word-reads k name-small w) refl)))

  name-plain : Every (Is not_comma) l
  name-plain = word-plain (both {a = high s} (both n.tests).0).1 w

  name-not-to : refused ≡ keyword_of (bytes "to") (l ++ k)
  name-not-to = unlike "to" k (both {a = high s && plain s} n.tests).1 w

-- ---- colors of digits
same-color : {r r' g g' b b' a a' : ℕ} → r ≡ r' → g ≡ g' → b ≡ b' → a ≡ a' → rgba r g b a ≡ color r' g' b' a'
same-color p q r s = rw (p, q, r, s)

-- a digit doubled, and two digits
short : {b x : ℕ} → Hex b x → pair x x ≡ 17 * hex_value b
short {b} {x} h = let e = (hex-is h).value in omega arith

long : {b b' x x' : ℕ} → Hex b x → Hex b' x' → pair x x' ≡ 16 * hex_value b + hex_value b'
long h h' = let e = (hex-is h).value in let e' = (hex-is h').value in omega arith

pub color-reads : {w : List ℕ} {v : Color} (k : List ℕ) → peek_of k ≤ 32 → ColorText w v → got v k ≡ color_of (w ++ k)
unfolding hex_color
color-reads k h (ColorText.three a b c) =
    hex-reads k h (more (hex-is a).is-hex (more (hex-is b).is-hex (more (hex-is c).is-hex none)))
    (ap (λ v. got v k) (same-color (short a) (short b) (short c) refl))
color-reads k h (ColorText.four a b c e) =
    hex-reads k h (more (hex-is a).is-hex (more (hex-is b).is-hex (more (hex-is c).is-hex (more (hex-is e).is-hex none))))
    (ap (λ v. got v k) (same-color (short a) (short b) (short c) (short e)))
color-reads k h (ColorText.six a b c e f g) =
    hex-reads k h (more (hex-is a).is-hex (more (hex-is b).is-hex
    (more (hex-is c).is-hex (more (hex-is e).is-hex (more (hex-is f).is-hex (more (hex-is g).is-hex none))))))
    (ap (λ v. got v k) (same-color (long a b) (long c e) (long f g) refl))
color-reads k h (ColorText.eight a b c e f g i j) =
    hex-reads k h (more (hex-is a).is-hex (more (hex-is b).is-hex (more (hex-is c).is-hex (more (hex-is e).is-hex
    (more (hex-is f).is-hex (more (hex-is g).is-hex (more (hex-is i).is-hex (more (hex-is j).is-hex none))))))))
    (ap (λ v. got v k) (same-color (long a b) (long c e) (long f g) (long i j)))
color-reads k h (ColorText.transparent w) = name-reads transparent-is w k
color-reads k h (ColorText.named (one n w)) = name-reads (name-is n) w k

pub color-first : {w : List ℕ} {v : Color} (k : List ℕ) → ColorText w v → 32 < peek_of (w ++ k)
unfolding peek_of
color-first k (ColorText.three a b c) = omega arith
color-first k (ColorText.four a b c e) = omega arith
color-first k (ColorText.six a b c e f g) = omega arith
color-first k (ColorText.eight a b c e f g i j) = omega arith
color-first k (ColorText.transparent w) = let h = name-high transparent-is w k in omega arith
color-first k (ColorText.named (one n w)) = let h = name-high (name-is n) w k in omega arith

-- ---- no comma
pub color-plain : {w : List ℕ} {v : Color} → ColorText w v → Every (Is not_comma) w
unfolding not_comma
color-plain (ColorText.three a b c) = more refl (more (hex-is a).plain (more (hex-is b).plain (more (hex-is c).plain none)))
color-plain (ColorText.four a b c e) =
    more refl (more (hex-is a).plain (more (hex-is b).plain (more (hex-is c).plain (more (hex-is e).plain none))))
color-plain (ColorText.six a b c e f g) =
    more refl (more (hex-is a).plain (more (hex-is b).plain
    (more (hex-is c).plain (more (hex-is e).plain (more (hex-is f).plain (more (hex-is g).plain none))))))
color-plain (ColorText.eight a b c e f g i j) =
    more refl (more (hex-is a).plain (more (hex-is b).plain (more (hex-is c).plain (more (hex-is e).plain
    (more (hex-is f).plain (more (hex-is g).plain (more (hex-is i).plain (more (hex-is j).plain none))))))))
color-plain (ColorText.transparent w) = name-plain transparent-is w []
color-plain (ColorText.named (one n w)) = name-plain (name-is n) w []

-- ---- no color begins a direction: it is neither `to` nor a number
pub record NotDirection (l : List ℕ) : Type 0 where
  pub word : refused ≡ keyword_of (bytes "to") l
  pub number : refused ≡ number_of exact l

hash-not : (d k : List ℕ) → NotDirection (code "#" ∷ (d ++ k))
unfolding peek_of lower
hash-not d k =
    record { word = word_first _ _ (code "#" ∷ (d ++ k)) (λ e. omega arith); number = number-none (code "#" ∷ (d ++ k)) (inl (omega arith)) }

name-not : {s : String} {v : Color} {l : List ℕ} → NameIs s v → Word s l → (k : List ℕ) → NotDirection (l ++ k)
name-not {l} n w k = record { word = name-not-to n w k; number = number-none (l ++ k) (inr (name-high n w k)) }

pub color-not : {w : List ℕ} {v : Color} (k : List ℕ) → ColorText w v → NotDirection (w ++ k)
color-not k (ColorText.three a b c) = hash-not (_ ∷ _ ∷ _ ∷ []) k
color-not k (ColorText.four a b c e) = hash-not (_ ∷ _ ∷ _ ∷ _ ∷ []) k
color-not k (ColorText.six a b c e f g) = hash-not (_ ∷ _ ∷ _ ∷ _ ∷ _ ∷ _ ∷ []) k
color-not k (ColorText.eight a b c e f g i j) = hash-not (_ ∷ _ ∷ _ ∷ _ ∷ _ ∷ _ ∷ _ ∷ _ ∷ []) k
color-not k (ColorText.transparent w) = name-not transparent-is w k
color-not k (ColorText.named (one n w)) = name-not (name-is n) w k
