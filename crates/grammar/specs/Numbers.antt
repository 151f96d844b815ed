-- Document 01: "A number: optional sign, then digits, or digits with a point and 1 to 3 digits after it; the digits before the point may be absent
-- if there is a point. `px`, `%` or `deg` follows at once. A bare number whose digits are all 0 is a length." Values are in thousandths.
-- Assumes nothing.
use Rattle.std.specs.Prelude.{ℕ, ◌+◌, ◌*◌, ◌-◌, ◌^◌, ◌≤◌, ◌<◌, ◌≡◌, List, [], ◌∷◌, ◌++◌, ℤ, pos, neg_ℤ, length}
use Prim.Native.Char.{code}
use Rattle.grammar.specs.Words.{Every, Word}

-- a digit and its value
pub data Digit : ℕ → ℕ → Type 0 where
  digit : (i : ℕ) → i < 10 → Digit (code "0" + i) i

-- "digits", some or none, and the number that they write
pub data Digits : List ℕ → ℕ → Type 0 where
  none : Digits [] 0
  more : {b x n : ℕ} {l : List ℕ} → Digit b x → Digits l n → Digits (b ∷ l) (x * 10 ^ length l + n)

pub data Magnitude : List ℕ → ℕ → Type 0 where
  -- "digits"
  whole : {d : List ℕ} {n : ℕ} → Digits d n → 1 ≤ length d → Magnitude d (1000 * n)
  -- "or digits with a point and 1 to 3 digits after it; the digits before the point may be absent if there is a point"
  point : {d f : List ℕ} {n m : ℕ} → Digits d n → Digits f m → 1 ≤ length f → length f ≤ 3
      → Magnitude (d ++ (code "." ∷ f)) (1000 * n + m * 10 ^ (3 - length f))

-- "optional sign"
pub data Signed : List ℕ → ℤ → Type 0 where
  unsigned : {l : List ℕ} {n : ℕ} → Magnitude l n → Signed l (pos n)
  plus : {l : List ℕ} {n : ℕ} → Magnitude l n → Signed (code "+" ∷ l) (pos n)
  minus : {l : List ℕ} {n : ℕ} → Magnitude l n → Signed (code "-" ∷ l) (neg_ℤ (pos n))

-- a byte that is 0 if it is a digit
abbrev pub ZeroDigit : ℕ → Type 0
ZeroDigit b = (x : ℕ) → Digit b x → x ≡ 0

pub data LengthText : List ℕ → ℤ → Type 0 where
  -- "`px` [..] follows at once."
  px : {l u : List ℕ} {z : ℤ} → Signed l z → Word "px" u → LengthText (l ++ u) z
  -- "A bare number whose digits are all 0 is a length."
  bare : {l : List ℕ} {z : ℤ} → Signed l z → Every ZeroDigit l → LengthText l z

pub data PercentageText : List ℕ → ℤ → Type 0 where
  -- "`%` [..] follows at once."
  percent : {l u : List ℕ} {z : ℤ} → Signed l z → Word "%" u → PercentageText (l ++ u) z

pub data AngleText : List ℕ → ℤ → Type 0 where
  -- "`deg` follows at once."
  deg : {l u : List ℕ} {z : ℤ} → Signed l z → Word "deg" u → AngleText (l ++ u) z
