-- What the answers of the code mean: each case as a reading of the text.
-- Assumes nothing.
use denote.Bor.{Bor}
use Rattle.std.specs.Prelude.{◌≡◌, ℕ, Bool, List, [], Option, Some, None}
use Rattle.std.specs.Fn.{Shared}
use Rattle.text.specs.Text.{Read, got, refused, keyword_of, ◌>>=◌}
use Rattle.text.specs.Text as text

-- a value and the rest of the text after it
abbrev pub view : {A : Type 0} → Option (A × Bor (List ℕ)) → Read A
view (Some (a, rest)) = got a rest.now
view None = refused

-- the rest after what says nothing more than that it stood there
abbrev pub view_rest : Option (Bor (List ℕ)) → Read (Unit {0})
view_rest (Some rest) = got tt rest.now
view_rest None = refused

-- a value with which the text ends
abbrev pub view_whole : {A : Type 0} → Option A → Read A
view_whole (Some a) = got a []
view_whole None = refused

-- a word, given as its bytes, that stands for a value: `word_for` of a word's name
abbrev pub bytes_for : {A : Type 0} → List ℕ → A → List ℕ → Read A
bytes_for w a l = keyword_of w l >>= λ _ k. got a k

-- f answers for each byte what the class p says of it
pub record Tests {F : Type 0} (g : Shared F (ℕ × Unit {0}) Bool) (f : F) (p : ℕ → Bool) : Type 0 where
  pub says : (b : ℕ) (t : Bool) → g.post f (b, tt) t → t ≡ p b

-- front and rest are the longest run of bytes of the class p that l begins with, and what lies past it
pub record SplitsRun (p : ℕ → Bool) (l front rest : List ℕ) : Type 0 where
  pub run : front ≡ text.run p l
  pub past : rest ≡ text.past p l

-- f reads what a grammar says
pub record Reads {F A : Type 0} (g : Shared F (Bor (List ℕ) × Unit {0}) (Option (A × Bor (List ℕ)))) (f : F) (grammar : List ℕ → Read A) : Type 0 where
  pub says : (s : Bor (List ℕ)) (r : Option (A × Bor (List ℕ))) → g.post f (s, tt) r → view r ≡ grammar s.now
