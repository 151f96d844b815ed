-- White space and words. Document 01, "Recipe text", before its bullets.
-- Assumes nothing.
use Rattle.std.specs.Prelude.{ℕ, ◌+◌, ◌<◌, List, [], ◌∷◌, ◌++◌}
use Prim.Native.Char.{Char, code}
use Prim.Native.String.{String, [] as empty, ◌∷◌ as ◌then◌}

-- bytes of one kind, some or none
pub data Every (Kind : ℕ → Type 0) : List ℕ → Type 0 where
  none : Every Kind []
  more : {b : ℕ} {l : List ℕ} → Kind b → Every Kind l → Every Kind (b ∷ l)

-- "White space is space, tab, LF, CR, FF."
pub data White : ℕ → Type 0 where
  space : White (code " ")
  tab : White (code "\t")
  lf : White (code "\n")
  cr : White (code "\r")
  ff : White (code "\u{c}")

-- white space that may stand
abbrev pub Space : List ℕ → Type 0
Space l = Every White l

-- white space of which "at least one must stand"
pub data Gap : List ℕ → Type 0 where
  gap : {b : ℕ} {l : List ℕ} → White b → Space l → Gap (b ∷ l)

-- white space that may stand on both sides, "after `(`, before `)` and around commas"
pub data Spaced {A : Type 0} (Text : List ℕ → A → Type 0) : List ℕ → A → Type 0 where
  spaced : {s l e : List ℕ} {a : A} → Space s → Text l a → Space e → Spaced Text (s ++ (l ++ e)) a

-- "Letters match without regard to ASCII case": a byte of the text, and the character of a word that it matches. Words are given in small letters.
pub data Letter : ℕ → ℕ → Type 0 where
  same : {b : ℕ} → Letter b b
  capital : (i : ℕ) → i < 26 → Letter (code "A" + i) (code "a" + i)

-- a word, letter by letter
pub data Word : String → List ℕ → Type 0 where
  end : Word empty []
  letter : {c : Char} {w : String} {b : ℕ} {l : List ℕ} → Letter b (code c) → Word w l → Word (c then w) (b ∷ l)

-- one of the words of a table, with what the table says that it means
pub data OneOf {A : Type 0} (Table : String → A → Type 0) : List ℕ → A → Type 0 where
  one : {w : String} {l : List ℕ} {a : A} → Table w a → Word w l → OneOf Table l a
