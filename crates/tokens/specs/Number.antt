-- A number of the text. Document 01: "A number: optional sign, then digits, or digits with a point and 1 to 3 digits after it; the digits before
-- the point may be absent if there is a point. `px`, `%` or `deg` follows at once. A bare number whose digits are all 0 is a length." Its value
-- is exact and has no bound; it is in thousandths of its unit.
-- The code is proved by these definitions, and crate `grammar` proves that they are the grammar.
-- Assumes nothing.
use Rattle.std.specs.Prelude.{ℕ, ◌+◌, ◌*◌, ◌-◌, ◌^◌, List, [], ◌∷◌, Bool, true, false, cond, ◌||◌, ◌&&◌, leb, eqb, ℤ, pos, neg_ℤ, length}
use Prim.Native.Char.{code}
use Rattle.text.specs.Text.{is, in_range, peek_of, rest_of, is_nil, run, past, Read, got, refused, ◌>>=◌, ◌or_read◌, word_for}
use Rattle.tokens.specs.declared.Unit.{Unit}
use Rattle.tokens.specs.declared.Unit.TheVariants.{Length, Percentage, Angle}
use Rattle.tokens.specs.declared.Number.{Number}

-- a digit, and the number that digits write after those that wrote n
unfoldable pub is_digit : ℕ → Bool
is_digit b = in_range "0" "9" b

unfoldable pub decimal : ℕ → List ℕ → ℕ
decimal n [] = n
decimal n (b ∷ l) = decimal (n * 10 + (b - code "0")) l

-- "optional sign": whether it is a minus, and what follows it
unfoldable pub is_negative : List ℕ → Bool
is_negative l = is "-" (peek_of l)

unfoldable pub after_sign : List ℕ → List ℕ
after_sign l = cond (is "+" (peek_of l) || is "-" (peek_of l)) (rest_of l) l

-- a magnitude with its sign
abbrev pub signed : Bool → ℕ → ℤ
signed true n = neg_ℤ (pos n)
signed false n = pos n

-- "1 to 3 digits after it", the point, in thousandths: the digits are read, and the rest follows them
unfoldable pub thousandths : List ℕ → List ℕ → Read ℕ
thousandths digits rest = cond (leb 1 (length digits) && leb (length digits) 3) (got (decimal 0 digits * 10 ^ (3 - length digits)) rest) refused

unfoldable pub fraction_of : List ℕ → Read ℕ
fraction_of l = thousandths (run is_digit l) (past is_digit l)

-- "digits, or digits with a point and 1 to 3 digits after it; the digits before the point may be absent if there is a point"
unfoldable pub magnitude_of : List ℕ → Read ℕ
magnitude_of l =
    cond (is "." (peek_of (past is_digit l)))
    (fraction_of (rest_of (past is_digit l)) >>= λ f k. got (decimal 0 (run is_digit l) * 1000 + f) k)
    (cond (is_nil (run is_digit l)) refused (got (decimal 0 (run is_digit l) * 1000) (past is_digit l)))

-- "`px`, `%` or `deg` follows at once. A bare number whose digits are all 0 is a length."
unfoldable pub unit_of : ℕ → List ℕ → Read Unit
unit_of n l = word_for "px" Length l or_read word_for "%" Percentage l or_read word_for "deg" Angle l or_read cond (eqb n 0) (got Length l) refused

-- a value with its unit
abbrev pub number : ℤ → Unit → Number
number z u = record { value = z; unit = u }

-- the sign, the magnitude and the unit; `keep` is what is kept of the value
unfoldable pub number_of : (ℤ → ℤ) → List ℕ → Read Number
number_of keep l = magnitude_of (after_sign l) >>= λ n k. unit_of n k >>= λ u e. got (number (keep (signed (is_negative l) n)) u) e

-- The paper's number is kept as it is.
abbrev pub exact : ℤ → ℤ
exact z = z
