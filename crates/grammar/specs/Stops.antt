-- Document 01: "A stop: a colour, then optionally a length or percentage. A stop keeps its colour beside a position that is unplaced, a length or a
-- percentage."
-- Assumes nothing.
use Rattle.std.specs.Prelude.{ℕ, List, [], ◌∷◌, ◌++◌, ℤ}
use Prim.Native.Char.{code}
use Rattle.gradient.specs.declared.Color.{Color}
use Rattle.gradient.specs.declared.Position.{Position}
use Rattle.gradient.specs.declared.Position.TheVariants as P
use Rattle.gradient.specs.declared.Stop.{Stop}
use Rattle.grammar.specs.Words.{Gap, Spaced}
use Rattle.grammar.specs.Numbers.{LengthText, PercentageText}
use Rattle.grammar.specs.Colors.{ColorText}

abbrev pub stop : Color → Position → Stop
stop v p = record { color = v; position = p }

pub data StopText : List ℕ → Stop → Type 0 where
  -- "a colour"
  unplaced : {l : List ℕ} {v : Color} → ColorText l v → StopText l (stop v P.Auto)
  -- "then optionally a length"
  at_length : {l g m : List ℕ} {v : Color} {z : ℤ} → ColorText l v → Gap g → LengthText m z → StopText (l ++ (g ++ m)) (stop v (P.Length z))
  -- "or percentage"
  at-percentage : {l g m : List ℕ} {v : Color} {z : ℤ} → ColorText l v → Gap g → PercentageText m z
      → StopText (l ++ (g ++ m)) (stop v (P.Percentage z))

-- "two or more stops split by commas", with white space "around commas"
pub data StopsText : List ℕ → List Stop → Type 0 where
  two : {l m : List ℕ} {s t : Stop} → Spaced StopText l s → Spaced StopText m t → StopsText (l ++ (code "," ∷ m)) (s ∷ t ∷ [])
  more : {l m : List ℕ} {s : Stop} {ss : List Stop} → Spaced StopText l s → StopsText m ss → StopsText (l ++ (code "," ∷ m)) (s ∷ ss)
