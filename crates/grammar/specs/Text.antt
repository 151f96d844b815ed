-- The whole text. Document 01: "A linear chart: an optional direction and comma, then two or more stops split by commas. [..] Left out, [the
-- direction] is `to bottom`." "A radial chart: [..]; then a comma and two or more stops." T-01: "Take `repeating-linear-gradient()` and its circular
-- radial sibling."
-- Assumes nothing.
use Rattle.std.specs.Prelude.{ℕ, Bool, true, false, List, [], ◌∷◌, ◌++◌}
use Prim.Native.Char.{code}
use Rattle.gradient.specs.declared.Side.TheVariants as S
use Rattle.gradient.specs.declared.Direction.{Direction}
use Rattle.gradient.specs.declared.Direction.TheVariants as D
use Rattle.gradient.specs.declared.Shape.{Shape}
use Rattle.gradient.specs.declared.Shape.TheVariants as Sh
use Rattle.gradient.specs.declared.Stop.{Stop}
use Rattle.reader.specs.Written.{Written, written}
use Rattle.grammar.specs.Words.{Spaced, Word}
use Rattle.grammar.specs.Stops.{StopsText}
use Rattle.grammar.specs.Directions.{DirectionText}
use Rattle.grammar.specs.Circles.{ShapeText}

-- what stands between the brackets of a linear gradient; whether it repeats, its name says
pub data LinearText (repeating : Bool) : List ℕ → Written → Type 0 where
  -- "Left out, it is `to bottom`."
  plain : {l : List ℕ} {ss : List Stop} → StopsText l ss → LinearText repeating l (written (Sh.Linear (D.Side S.Bottom)) repeating ss)
  -- "an optional direction and comma, then two or more stops split by commas"
  directed : {l m : List ℕ} {d : Direction} {ss : List Stop} → Spaced DirectionText l d → StopsText m ss
      → LinearText repeating (l ++ (code "," ∷ m)) (written (Sh.Linear d) repeating ss)

-- and of a radial one: "then a comma and two or more stops"
pub data RadialText (repeating : Bool) : List ℕ → Written → Type 0 where
  circular : {l m : List ℕ} {s : Shape} {ss : List Stop} → Spaced ShapeText l s → StopsText m ss
      → RadialText repeating (l ++ (code "," ∷ m)) (written s repeating ss)

-- "None stands between a function's name and its `(`."
pub data FunctionText : List ℕ → Written → Type 0 where
  linear : {l m : List ℕ} {g : Written} → Word "linear-gradient(" l → LinearText false m g → FunctionText (l ++ (m ++ (code ")" ∷ []))) g
  radial : {l m : List ℕ} {g : Written} → Word "radial-gradient(" l → RadialText false m g → FunctionText (l ++ (m ++ (code ")" ∷ []))) g
  -- "Take `repeating-linear-gradient()`"
  repeating-linear : {l m : List ℕ} {g : Written} → Word "repeating-linear-gradient(" l → LinearText true m g
      → FunctionText (l ++ (m ++ (code ")" ∷ []))) g
  -- "and its circular radial sibling"
  repeating-radial : {l m : List ℕ} {g : Written} → Word "repeating-radial-gradient(" l → RadialText true m g
      → FunctionText (l ++ (m ++ (code ")" ∷ []))) g

-- "It may stand before and after the whole text": the text l is in the grammar, and writes the gradient g
abbrev pub InGrammar : List ℕ → Written → Type 0
InGrammar l g = Spaced FunctionText l g
