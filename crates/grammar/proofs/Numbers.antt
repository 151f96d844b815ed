-- The definition of reading numbers is the grammar's: what it gets is a number of the grammar, and it gets every one before white space or the end.
-- Assumes nothing.
use mathlib.Core.Path.{◌≡◌, refl, ap, ◌∙◌}
use mathlib.Core.List.{List, [], ◌∷◌, ◌++◌, append_assoc, append-nil}
use mathlib.Core.Bool.{Bool, true, false, cond, ◌&&◌}
use mathlib.Core.Logic.{◌⊎◌, inl, inr, ⊎_elim}
use Prim.Native.Nat.{ℕ, ◌+◌, ◌*◌, ◌-◌, ◌^◌, ◌≤◌, ◌<◌}
use Prim.Native.Char.{code}
use native.Mathlib.Nat.{pow-succ', one-le-pow, mul-le-mul}
use native.Mathlib.Omega.{arith}
use lib.Dec.{leb, eqb}
use lib.IntN.{ℤ}
use lib.ListN.{length as count}
use borrow.Author.Tests.{ne_eqb, le-leb, leb-true, eqb-true}
use Rattle.text.specs.Text.{is, is_nil, peek_of, rest_of, past, run, got, refused, ◌>>=◌}
use Rattle.text.proofs.Laws.{bind-got, bind-refused, or-first, or-second, past_stop, run-stop, run_past, in-range, below-range, above-range, keyword-letter}
use Rattle.tokens.specs.declared.Unit.{Unit}
use Rattle.tokens.specs.declared.Unit.TheVariants.{Length, Percentage, Angle}
use Rattle.tokens.specs.declared.Number.{Number}
use Rattle.tokens.specs.Number.{is_digit, decimal, signed, number, is_negative, after_sign, thousandths, fraction_of, magnitude_of, unit_of, number_of, exact}
use Rattle.tokens.specs.Color.{begins}
use Rattle.tokens.proofs.Decimal.{digit-end, digit-bounds}
use Rattle.tokens.proofs.NameTable.{both}
use Rattle.stoplist.specs.View.{not_comma}
use Rattle.grammar.specs.Words.{Every, none, more, Word}
use Rattle.grammar.specs.Numbers as G
use Rattle.grammar.specs.Numbers.{Digit, digit, Digits, Magnitude, whole, point, Signed, unsigned, plus, minus, ZeroDigit, LengthText, PercentageText, AngleText}
use Rattle.grammar.proofs.Laws.{Is, Reads, some, nothing, behind, reads-or, reads_then, reads-map, reads-for, run-every, past-every, every-run, word-reads, unlike, word_first, lower-low, first-low, word-high, every_append, every-sub, not-comma, word-plain}

-- ---- digits
digit-byte : {b x : ℕ} → Digit b x → (b ≡ 48 + x) × (x < 10)
digit-byte (digit i h) = (refl, h)

digit-is : {b x : ℕ} → Digit b x → is_digit b ≡ true
unfolding is_digit
digit-is {b} d = let h = digit-byte d in in-range "0" "9" b (omega arith) (omega arith)

digit_at : (b x : ℕ) → b ≡ 48 + x → x < 10 → Digit b x
digit_at b x e h = rw e (digit x h)

is_digit_lem : (b : ℕ) → is_digit b ≡ true → Digit b (b - 48)
is_digit_lem b e = let h = digit-bounds b e in digit_at b (b - 48) (omega arith) (omega arith)

decimal-none : (n : ℕ) → decimal n [] ≡ n
unfolding decimal
decimal-none n = refl

decimal-more : (n b : ℕ) (l : List ℕ) → decimal n (b ∷ l) ≡ decimal (n * 10 + (b - 48)) l
unfolding decimal
decimal-more n b l = refl

-- digits after those that wrote n
decimal-after : (l : List ℕ) (n : ℕ) → decimal n l ≡ n * 10 ^ count l + decimal 0 l
decimal-after [] n = decimal-none n ∙ omega (arith, decimal-none 0)
decimal-after (b ∷ l) n =
    let p : ℕ = 10 ^ count l in
    let x : ℕ = b - 48 in
    let first = decimal-after l (n * 10 + x) in
    let all = decimal-after l (0 * 10 + x) in
    rw (decimal-more n b l, decimal-more 0 b l, pow-succ' 10 (count l)) (omega (arith, first, all))

digits_are : {d : List ℕ} {n : ℕ} → Digits d n → Every (Is is_digit) d × (decimal 0 d ≡ n)
digits_are G.none = (none, decimal-none 0)
digits_are (G.more {b} {x} {l} e t) =
    let h = digits_are t in
    let v : 0 * 10 + (b - 48) ≡ x = let z = digit-byte e in omega arith in
    (more (digit-is e) h.0, decimal-more 0 b l ∙ rw v (decimal-after l x ∙ ap (λ m. x * 10 ^ count l + m) h.1))

are-digits : {d : List ℕ} → Every (Is is_digit) d → Digits d (decimal 0 d)
are-digits none = rw (decimal-none 0) G.none
are-digits (more {b} {l} e t) =
    let v : decimal 0 (b ∷ l) ≡ (b - 48) * 10 ^ count l + decimal 0 l = decimal-more 0 b l ∙ decimal-after l (0 * 10 + (b - 48)) ∙ omega arith in
    rw v (G.more (is_digit_lem b e) (are-digits t))

-- "digits are all 0": the number that they write is 0
digit-zero : {b x : ℕ} → Digit b x → x ≡ 0 → ZeroDigit b
digit-zero d e y h = let z = digit-byte d in let w = digit-byte h in omega arith

no_digit : (b : ℕ) → b < 48 → ZeroDigit b
no_digit b h x d = absurd (let z = digit-byte d in omega arith)

zero-digits : {d : List ℕ} {n : ℕ} → Digits d n → n ≡ 0 → Every ZeroDigit d
zero-digits G.none e = none
zero-digits (G.more {x} {n} {l} d t) e =
    let p : x * 1 ≤ x * 10 ^ count l = mul-le-mul (omega arith) (one-le-pow (count l) 10 (omega arith)) in
    more (digit-zero d (omega arith)) (zero-digits t (omega arith))

digits-zero : {d : List ℕ} {n : ℕ} → Digits d n → Every ZeroDigit d → n ≡ 0
digits-zero G.none none = refl
digits-zero (G.more {x} {l} d t) (more z w) = let e = digits-zero t w in rw (z x d) (omega arith)

every-parts : {K : ℕ → Type 0} (l : List ℕ) {m : List ℕ} → Every K (l ++ m) → Every K l × Every K m
every-parts [] w = (none, w)
every-parts (b ∷ l) (more e t) = let h = every-parts l t in (more e h.0, h.1)

zero-magnitude : {m : List ℕ} {n : ℕ} → Magnitude m n → n ≡ 0 → Every ZeroDigit m
zero-magnitude (whole d s) e = zero-digits d (omega arith)
zero-magnitude (point {f} {m} d v s t) e =
    let p : m * 1 ≤ m * 10 ^ (3 - count f) = mul-le-mul (omega arith) (one-le-pow (3 - count f) 10 (omega arith)) in
    every_append (zero-digits d (omega arith)) (more (no_digit 46 (omega arith)) (zero-digits v (omega arith)))

magnitude-zero : {m : List ℕ} {n : ℕ} → Magnitude m n → Every ZeroDigit m → n ≡ 0
magnitude-zero (whole d s) w = let e = digits-zero d w in omega arith
magnitude-zero (point {d} {f} {n} {m} u v s t) w = go (every-parts d w)
  where
    go : Every ZeroDigit d × Every ZeroDigit (46 ∷ f) → 1000 * n + m * 10 ^ (3 - count f) ≡ 0
    go (x, more e y) = rw (digits-zero u x, digits-zero v y) (omega arith)

-- ---- a number as reading takes it apart: sign, magnitude and unit
data Sign : List ℕ → Bool → Type 0 where
  absent : Sign [] false
  positive : Sign (code "+" ∷ []) false
  negative : Sign (code "-" ∷ []) true

data UnitAfter : ℕ → List ℕ → Unit → Type 0 where
  px : {n : ℕ} {l : List ℕ} → Word "px" l → UnitAfter n l Length
  percent : {n : ℕ} {l : List ℕ} → Word "%" l → UnitAfter n l Percentage
  deg : {n : ℕ} {l : List ℕ} → Word "deg" l → UnitAfter n l Angle
  bare : UnitAfter 0 [] Length

data Parts : Unit → List ℕ → ℤ → Type 0 where
  parts : {s m u : List ℕ} {neg : Bool} {n : ℕ} {unit : Unit} → Sign s neg → Magnitude m n → UnitAfter n u unit
      → Parts unit (s ++ (m ++ u)) (signed neg n)

-- a number of the grammar by its unit
pub data NumberText : Unit → List ℕ → ℤ → Type 0 where
  length : {l : List ℕ} {z : ℤ} → LengthText l z → NumberText Length l z
  percentage : {l : List ℕ} {z : ℤ} → PercentageText l z → NumberText Percentage l z
  angle : {l : List ℕ} {z : ℤ} → AngleText l z → NumberText Angle l z

with-sign : {s m : List ℕ} {neg : Bool} {n : ℕ} → Sign s neg → Magnitude m n → Signed (s ++ m) (signed neg n)
with-sign Sign.absent h = unsigned h
with-sign Sign.positive h = plus h
with-sign Sign.negative h = minus h

sign_zero : {s : List ℕ} {neg : Bool} → Sign s neg → Every ZeroDigit s
sign_zero Sign.absent = none
sign_zero Sign.positive = more (no_digit 43 (omega arith)) none
sign_zero Sign.negative = more (no_digit 45 (omega arith)) none

together : {unit : Unit} {l : List ℕ} {z : ℤ} → Parts unit l z → NumberText unit l z
together (parts {s} {m} {u} a b (UnitAfter.px w)) = rw (← append_assoc s m u) (NumberText.length (LengthText.px (with-sign a b) w))
together (parts {s} {m} {u} a b (UnitAfter.percent w)) = rw (← append_assoc s m u) (NumberText.percentage (PercentageText.percent (with-sign a b) w))
together (parts {s} {m} {u} a b (UnitAfter.deg w)) = rw (← append_assoc s m u) (NumberText.angle (AngleText.deg (with-sign a b) w))
together (parts {s} {m} a b UnitAfter.bare) =
    rw (append-nil m) (NumberText.length (LengthText.bare (with-sign a b) (every_append (sign_zero a) (zero-magnitude b refl))))

with_unit : {unit : Unit} {l u : List ℕ} {z : ℤ} → Signed l z → ((n : ℕ) → UnitAfter n u unit) → Parts unit (l ++ u) z
with_unit (unsigned {n} h) w = parts Sign.absent h (w n)
with_unit (plus {n} h) w = parts Sign.positive h (w n)
with_unit (minus {n} h) w = parts Sign.negative h (w n)

no-unit : {n : ℕ} → n ≡ 0 → UnitAfter n [] Length
no-unit e = rw e UnitAfter.bare

bare_parts : {l : List ℕ} {z : ℤ} → Signed l z → Every ZeroDigit l → Parts Length (l ++ []) z
bare_parts (unsigned h) w = parts Sign.absent h (no-unit (magnitude-zero h w))
bare_parts (plus h) (more e w) = parts Sign.positive h (no-unit (magnitude-zero h w))
bare_parts (minus h) (more e w) = parts Sign.negative h (no-unit (magnitude-zero h w))

apart : {unit : Unit} {l : List ℕ} {z : ℤ} → NumberText unit l z → Parts unit l z
apart (NumberText.length (LengthText.px s w)) = with_unit s (λ n. UnitAfter.px w)
apart (NumberText.length (LengthText.bare {l} s w)) = rw (append-nil l) at (bare_parts s w)
apart (NumberText.percentage (PercentageText.percent s w)) = with_unit s (λ n. UnitAfter.percent w)
apart (NumberText.angle (AngleText.deg s w)) = with_unit s (λ n. UnitAfter.deg w)

-- ---- sound
reads-unit : (n : ℕ) (l : List ℕ) → Reads (UnitAfter n) l (unit_of n l)
unfolding unit_of
reads-unit n l =
    reads-or (reads-for (UnitAfter n) "px" Length refl (λ _ h. UnitAfter.px h) l)
    (reads-or (reads-for (UnitAfter n) "%" Percentage refl (λ _ h. UnitAfter.percent h) l)
    (reads-or (reads-for (UnitAfter n) "deg" Angle refl (λ _ h. UnitAfter.deg h) l)
    (go (eqb n 0) refl)))
  where
    go : (t : Bool) → eqb n 0 ≡ t → Reads (UnitAfter n) l (cond t (got Length l) refused)
    go true e = some {a = Length} [] (no-unit (eqb-true n 0 e)) refl
    go false e = nothing

-- the code of a magnitude has its factor of 1000 on the right
whole-digits : {d : List ℕ} → Every (Is is_digit) d → 1 ≤ count d → Magnitude d (decimal 0 d * 1000)
whole-digits {d} w s = let e : decimal 0 d * 1000 ≡ 1000 * decimal 0 d = omega arith in rw e (whole (are-digits w) s)

point-digits : {d f : List ℕ} → Every (Is is_digit) d → Every (Is is_digit) f → 1 ≤ count f → count f ≤ 3
    → Magnitude (d ++ (code "." ∷ f)) (decimal 0 d * 1000 + decimal 0 f * 10 ^ (3 - count f))
point-digits {d} w v s t = let e : decimal 0 d * 1000 ≡ 1000 * decimal 0 d = omega arith in rw e (point (are-digits w) (are-digits v) s (omega arith))

reads-fraction : (d l : List ℕ) → Every (Is is_digit) d → Reads (λ w n. Magnitude (d ++ (code "." ∷ w)) (decimal 0 d * 1000 + n)) l (fraction_of l)
unfolding fraction_of thousandths
reads-fraction d l h =
    go (run is_digit l) (run-every is_digit l) (run_past is_digit l) (leb 1 (count (run is_digit l)) && leb (count (run is_digit l)) 3) refl
  where
    go : (f : List ℕ) → Every (Is is_digit) f → f ++ past is_digit l ≡ l → (t : Bool) → (leb 1 (count f) && leb (count f) 3) ≡ t
        → Reads (λ w n. Magnitude (d ++ (code "." ∷ w)) (decimal 0 d * 1000 + n)) l
        (cond t (got (decimal 0 f * 10 ^ (3 - count f)) (past is_digit l)) refused)
    go f v e true b = some f (point-digits h v (leb-true _ _ (both b).0) (leb-true _ _ (both {a = leb 1 (count f)} b).1)) e
    go f v e false b = nothing

reads-magnitude : (l : List ℕ) → Reads Magnitude l (magnitude_of l)
unfolding magnitude_of peek_of rest_of
reads-magnitude l = go (run is_digit l) (past is_digit l) (run-every is_digit l) (run_past is_digit l) (is "." (peek_of (past is_digit l))) refl
  where
    pointed : (d m : List ℕ) → Every (Is is_digit) d → d ++ m ≡ l → peek_of m ≡ code "."
        → Reads Magnitude l (fraction_of (rest_of m) >>= λ f k. got (decimal 0 d * 1000 + f) k)
    pointed d [] h e q = absurd (omega arith)
    pointed d (b ∷ m) h e q =
        let p : d ++ (code "." ∷ m) ≡ l = rw (← q) e in
        behind Magnitude d l p (behind (λ w n. Magnitude (d ++ w) n) (code "." ∷ []) (code "." ∷ m) refl
        (reads-map (λ w n. Magnitude (d ++ (code "." ∷ w)) n) (λ f. decimal 0 d * 1000 + f) (λ _ _ x. x) (reads-fraction d m h)))

    digits-alone : (d m : List ℕ) → Every (Is is_digit) d → d ++ m ≡ l → Reads Magnitude l (cond (is_nil d) refused (got (decimal 0 d * 1000) m))
    digits-alone [] m h e = nothing
    digits-alone (b ∷ d) m h e = some (b ∷ d) (whole-digits h (omega arith)) e

    go : (d m : List ℕ) → Every (Is is_digit) d → d ++ m ≡ l → (t : Bool) → is "." (peek_of m) ≡ t → Reads Magnitude l
        (cond t (fraction_of (rest_of m) >>= λ f k. got (decimal 0 d * 1000 + f) k) (cond (is_nil d) refused (got (decimal 0 d * 1000) m)))
    go d m h e true q = pointed d m h e (eqb-true _ _ q)
    go d m h e false q = digits-alone d m h e

-- what a sign leaves
record SignAt (l : List ℕ) : Type 0 where
  word : List ℕ
  sign : Sign word (is_negative l)
  joined : word ++ after_sign l ≡ l

sign_at : (l : List ℕ) → SignAt l
unfolding is_negative after_sign peek_of rest_of
sign_at [] = record { word = []; sign = Sign.absent; joined = refl }
sign_at (b ∷ l) = go (is "+" b) refl (is "-" b) refl
  where
    go : (p : Bool) → is "+" b ≡ p → (m : Bool) → is "-" b ≡ m → SignAt (b ∷ l)
    go true e m q = let z = eqb-true b (code "+") e in record { word = code "+" ∷ []; sign = rw z Sign.positive; joined = rw z }
    go false e true q = let z = eqb-true b (code "-") q in record { word = code "-" ∷ []; sign = rw z Sign.negative; joined = rw z }
    go false e false q = record { word = []; sign = rw q Sign.absent; joined = rw (e, q) }

abbrev pub Numbered : List ℕ → Number → Type 0
Numbered l n = NumberText n.unit l n.value

pub reads-number : (l : List ℕ) → Reads Numbered l (number_of exact l)
unfolding number_of
reads-number l =
    let g = sign_at l in
    behind Numbered g.word l g.joined
    (reads_then (λ v b. Numbered (g.word ++ v) b) _
    (λ n m h k. reads-map (λ v b. Numbered (g.word ++ (m ++ v)) b) (λ u. number (signed (is_negative l) n) u)
    (λ u v e. together (parts g.sign h e)) (reads-unit n k))
    (reads-magnitude (after_sign l)))

-- ---- complete
-- a rest that goes on neither with a digit nor with a point
record Stops (k : List ℕ) : Type 0 where
  digit : is_digit (peek_of k) ≡ false
  dot : is "." (peek_of k) ≡ false

stops : (k : List ℕ) → (peek_of k < 46) ⊎ (57 < peek_of k) → Stops k
unfolding is_digit
stops k (inl h) = record { digit = below-range "0" "9" (peek_of k) (omega arith); dot = ne_eqb (peek_of k) 46 (λ e. omega arith) }
stops k (inr h) = record { digit = above-range "0" "9" (peek_of k) (omega arith); dot = ne_eqb (peek_of k) 46 (λ e. omega arith) }

magnitude-reads : {m : List ℕ} {n : ℕ} (k : List ℕ) → Stops k → Magnitude m n → got n k ≡ magnitude_of (m ++ k)
unfolding magnitude_of fraction_of thousandths peek_of rest_of is_digit
magnitude-reads k h (whole {d} {n} w s) =
    let q = digits_are w in
    let v : decimal 0 d * 1000 ≡ 1000 * n = omega arith in
    rw (past-every is_digit digit-end k h.digit q.0, every-run is_digit digit-end k h.digit q.0, h.dot, v) (go d s)
  where
    go : (d : List ℕ) → 1 ≤ count d → got (1000 * n) k ≡ cond (is_nil d) refused (got (1000 * n) k)
    go [] s = absurd (omega arith)
    go (b ∷ d) s = refl
magnitude-reads k h (point {d} {f} {n} {m} w v s e) =
    let q = digits_are w in
    let r = digits_are v in
    let t : decimal 0 d * 1000 ≡ 1000 * n = omega arith in
    rw (
      append_assoc d (code "." ∷ f) k,
      past-every is_digit digit-end (code "." ∷ (f ++ k)) refl q.0,
      every-run is_digit digit-end (code "." ∷ (f ++ k)) refl q.0,
      past-every is_digit digit-end k h.digit r.0,
      every-run is_digit digit-end k h.digit r.0,
      le-leb 1 (count f) s,
      le-leb (count f) 3 e,
      t,
      r.1,
    )

-- the unit, before white space or the end
unit-reads : {n : ℕ} {u : List ℕ} {unit : Unit} (k : List ℕ) → peek_of k ≤ 32 → UnitAfter n u unit → got unit k ≡ unit_of n (u ++ k)
unfolding unit_of begins
unit-reads k h (UnitAfter.px w) = or-first _ (bind-got _ (word-reads k refl w) refl)
unit-reads k h (UnitAfter.percent w) = or-second (bind-refused _ (unlike "px" k refl w)) (or-first _ (bind-got _ (word-reads k refl w) refl))
unit-reads k h (UnitAfter.deg w) =
    or-second (bind-refused _ (unlike "px" k refl w)) (or-second (bind-refused _ (unlike "%" k refl w))
    (or-first _ (bind-got _ (word-reads k refl w) refl)))
unit-reads k h UnitAfter.bare =
    let e = lower-low (peek_of k) (omega arith) in
    or-second (bind-refused _ (word_first _ _ k (λ q. omega arith)))
    (or-second (bind-refused _ (word_first _ _ k (λ q. omega arith)))
    (or-second (bind-refused _ (word_first _ _ k (λ q. omega arith))) refl))

unit-stops : {n : ℕ} {u : List ℕ} {unit : Unit} (k : List ℕ) → peek_of k ≤ 32 → UnitAfter n u unit → Stops (u ++ k)
unit-stops k h (UnitAfter.px w) = stops _ (inr (word-high k refl w))
unit-stops k h (UnitAfter.percent {l} w) = stops _ (inl (first-low _ 37 (keyword-letter _ _ (l ++ k) (word-reads k refl w)).0 (omega arith)))
unit-stops k h (UnitAfter.deg w) = stops _ (inr (word-high k refl w))
unit-stops k h UnitAfter.bare = stops k (inl (omega arith))

digits-first : {d : List ℕ} {n : ℕ} (k : List ℕ) → 45 < peek_of k → peek_of k < 58 → Digits d n → (45 < peek_of (d ++ k)) × (peek_of (d ++ k) < 58)
unfolding peek_of
digits-first k p q G.none = (p, q)
digits-first k p q (G.more e t) = let h = digit-byte e in (omega arith, omega arith)

magnitude-first : {m : List ℕ} {n : ℕ} (k : List ℕ) → Magnitude m n → (45 < peek_of (m ++ k)) × (peek_of (m ++ k) < 58)
unfolding peek_of
magnitude-first k (whole G.none s) = absurd (omega arith)
magnitude-first k (whole (G.more e t) s) = let h = digit-byte e in (omega arith, omega arith)
magnitude-first k (point {d} {f} w v s e) = rw (append_assoc d (code "." ∷ f) k) (digits-first (code "." ∷ (f ++ k)) (omega arith) (omega arith) w)

sign_reads : {s : List ℕ} {neg : Bool} (r : List ℕ) → 45 < peek_of r → Sign s neg → (after_sign (s ++ r) ≡ r) × (is_negative (s ++ r) ≡ neg)
unfolding is_negative after_sign peek_of rest_of
sign_reads r h Sign.absent =
    (rw (ne_eqb (peek_of r) 43 (λ e. omega arith), ne_eqb (peek_of r) 45 (λ e. omega arith)), ne_eqb (peek_of r) 45 (λ e. omega arith))
sign_reads r h Sign.positive = (refl, refl)
sign_reads r h Sign.negative = (refl, refl)

parts-read : {unit : Unit} {w : List ℕ} {z : ℤ} (k : List ℕ) → peek_of k ≤ 32 → Parts unit w z → got (number z unit) k ≡ number_of exact (w ++ k)
unfolding number_of
parts-read k h (parts {s} {m} {u} {n} a b c) =
    let g = sign_reads (m ++ (u ++ k)) (magnitude-first (u ++ k) b).0 a in
    rw (append_assoc s (m ++ u) k, append_assoc m u k, g.0, g.1)
    (bind-got _ (magnitude-reads (u ++ k) (unit-stops k h c) b) (bind-got _ (unit-reads k h c) refl))

parts_first : {unit : Unit} {w : List ℕ} {z : ℤ} (k : List ℕ) → Parts unit w z → (42 < peek_of (w ++ k)) × (peek_of (w ++ k) < 58)
unfolding peek_of
parts_first k (parts {m} {u} Sign.absent b c) = let h = magnitude-first (u ++ k) b in rw (append_assoc m u k) (omega arith, omega arith)
parts_first k (parts Sign.positive b c) = (omega arith, omega arith)
parts_first k (parts Sign.negative b c) = (omega arith, omega arith)

-- every number before white space or the end; how one begins; and no number in nothing
pub number-reads : {unit : Unit} {w : List ℕ} {z : ℤ} (k : List ℕ) → peek_of k ≤ 32 → NumberText unit w z
    → got (number z unit) k ≡ number_of exact (w ++ k)
number-reads k h n = parts-read k h (apart n)

pub number-first : {unit : Unit} {w : List ℕ} {z : ℤ} (k : List ℕ) → NumberText unit w z → (42 < peek_of (w ++ k)) × (peek_of (w ++ k) < 58)
number-first k n = parts_first k (apart n)

pub no_number : refused ≡ number_of exact []
unfolding number_of magnitude_of after_sign peek_of rest_of past run
no_number = refl

-- ---- no comma
digits-plain : {d : List ℕ} {n : ℕ} → Digits d n → Every (Is not_comma) d
digits-plain w = every-sub (Is not_comma) (λ b e. not-comma b (λ q. let h = digit-bounds b e in omega arith)) (digits_are w).0

pub number-plain : {unit : Unit} {w : List ℕ} {z : ℤ} → NumberText unit w z → Every (Is not_comma) w
unfolding not_comma
number-plain n = go (apart n)
  where
    of-sign : {s : List ℕ} {neg : Bool} → Sign s neg → Every (Is not_comma) s
    of-sign Sign.absent = none
    of-sign Sign.positive = more refl none
    of-sign Sign.negative = more refl none

    of-magnitude : {m : List ℕ} {n : ℕ} → Magnitude m n → Every (Is not_comma) m
    of-magnitude (whole d s) = digits-plain d
    of-magnitude (point d f s e) = every_append (digits-plain d) (more refl (digits-plain f))

    of-unit : {n : ℕ} {u : List ℕ} {unit : Unit} → UnitAfter n u unit → Every (Is not_comma) u
    of-unit (UnitAfter.px w) = word-plain refl w
    of-unit (UnitAfter.percent w) = word-plain refl w
    of-unit (UnitAfter.deg w) = word-plain refl w
    of-unit UnitAfter.bare = none

    go : {unit : Unit} {w : List ℕ} {z : ℤ} → Parts unit w z → Every (Is not_comma) w
    go (parts a b c) = every_append (of-sign a) (every_append (of-magnitude b) (of-unit c))

-- no number begins with a byte that is no sign, digit or point
pub number-none : (l : List ℕ) → (peek_of l < 43) ⊎ (57 < peek_of l) → refused ≡ number_of exact l
unfolding number_of magnitude_of after_sign
number-none l h =
    let d = stops l (⊎_elim (λ q. inl (omega arith)) (λ q. inr q) h) in
    rw (
      ne_eqb (peek_of l) 43 (λ e. ⊎_elim (λ q. omega arith) (λ q. omega arith) h),
      ne_eqb (peek_of l) 45 (λ e. ⊎_elim (λ q. omega arith) (λ q. omega arith) h),
      ← past_stop is_digit digit-end l d.digit,
      run-stop is_digit digit-end l d.digit,
      d.dot,
    )
