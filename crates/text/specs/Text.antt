-- The rest of a text, a list of bytes, and what a reading of it finds. Each definition speaks of the text from some place on.
-- Assumes nothing.
use Rattle.std.specs.Prelude.{ℕ, ◌+◌, List, [], ◌∷◌, Bool, true, false, cond, ◌||◌, ◌&&◌, leb, eqb}
use Prim.Native.Char.{Char, code}
use Prim.Native.String.{String, [] as none, ◌∷◌ as ◌then◌}

-- the bytes of an ASCII text
abbrev pub bytes : String → List ℕ
bytes none = []
bytes (c then s) = code c ∷ bytes s

-- whether a byte is an ASCII character, or one from a first to a last
abbrev pub is : Char → ℕ → Bool
is c b = eqb b (code c)

abbrev pub in_range : Char → Char → ℕ → Bool
in_range first last b = leb (code first) b && leb b (code last)

-- the first byte, 0 at the end
unfoldable pub peek_of : List ℕ → ℕ
peek_of [] = 0
peek_of (b ∷ l) = b

-- what follows the first byte
unfoldable pub rest_of : List ℕ → List ℕ
rest_of [] = []
rest_of (b ∷ l) = l

-- whether nothing is left
abbrev pub is_nil : {A : Type 0} → List A → Bool
is_nil [] = true
is_nil (b ∷ l) = false

-- the longest run of bytes of a class, and what lies past it
unfoldable pub run : (ℕ → Bool) → List ℕ → List ℕ
run p [] = []
run p (b ∷ l) = cond (p b) (b ∷ run p l) []

unfoldable pub past : (ℕ → Bool) → List ℕ → List ℕ
past p [] = []
past p (b ∷ l) = cond (p b) (past p l) (b ∷ l)

-- What a reading finds: a value and the rest of the text after it, or nothing of the kind.
pub data Read (A : Type 0) : Type 0 where
  got : A → List ℕ → Read A
  refused : Read A

-- a reading, and with what it got another one of what follows
infixl 20 ◌>>=◌
abbrev pub ◌>>=◌ : {A B : Type 0} → Read A → (A → List ℕ → Read B) → Read B
got a l >>= f = f a l
refused >>= f = refused

-- a reading, or where it gets nothing another one
infixr 15 ◌or_read◌
abbrev pub ◌or_read◌ : {A : Type 0} → Read A → Read A → Read A
got a l or_read r = got a l
refused or_read r = r

-- a reading with what it got changed
abbrev pub map_read : {A B : Type 0} → (A → B) → Read A → Read B
map_read h (got a l) = got (h a) l
map_read h refused = refused

-- "White space is space, tab, LF, CR, FF."
unfoldable pub is_space : ℕ → Bool
is_space b = is " " b || is "\t" b || is "\n" b || is "\r" b || is "\u{c}" b

-- "at least one must stand between neighbouring words, numbers or colours"
unfoldable pub gap_of : List ℕ → Read (Unit {0})
gap_of l = cond (is_space (peek_of l)) (got tt (past is_space l)) refused

-- a letter in lower case, any other byte as it is
unfoldable pub lower : ℕ → ℕ
lower b = cond (in_range "A" "Z" b) (b + 32) b

-- "Letters match without regard to ASCII case": a word, given in lower case and with no byte 0, at the front of the text
unfoldable pub keyword_of : List ℕ → List ℕ → Read (Unit {0})
keyword_of [] l = got tt l
keyword_of (k ∷ ks) l = cond (eqb (lower (peek_of l)) k) (keyword_of ks (rest_of l)) refused

-- a word that stands for a value
abbrev pub word_for : {A : Type 0} → String → A → List ℕ → Read A
word_for w a l = keyword_of (bytes w) l >>= λ _ k. got a k

-- "at least one must stand between neighbouring words, numbers or colours": a reading of what follows white space
abbrev pub after_gap : {A : Type 0} → (List ℕ → Read A) → List ℕ → Read A
after_gap read l = gap_of l >>= λ _ k. read k

-- a reading of a whole text, with white space around it
unfoldable pub whole_of : {A : Type 0} → (List ℕ → Read A) → List ℕ → Read A
whole_of read l = read (past is_space l) >>= λ a k. cond (is_nil (past is_space k)) (got a []) refused
