-- Where the words of a gradient stand in its layout.
-- Assumes nothing.
use mathlib.Core.Path.{◌≡◌, refl, ◌∙◌}
use mathlib.Core.Bool.{Bool}
use mathlib.Core.List.{List}
use Prim.Native.Nat.{ℕ, ◌+◌, ◌*◌, ◌<◌}
use native.Mathlib.Omega.{arith}
use lib.ListN.{length, get_or, length-append, get_or-append}
use lib.Seq.{get_or-append-add}
use Rattle.words.specs.Word.{word_at, each}
use Rattle.words.proofs.Each.{each-length, each_at}
use Rattle.words.proofs.Back.{word_back}
use Rattle.gradient.specs.Blank.{blank_stop}
use Rattle.gradient.specs.declared.Shape.{Shape}
use Rattle.gradient.specs.declared.Shape.TheVariants.{Linear, Circle}
use Rattle.gradient.specs.declared.Gradient.{Gradient}
use Rattle.layout.specs.Words.{stop_words, head_words, words_of, layout_of}

-- the head is 16 words
pub head-length : (n : ℕ) (s : Shape) (r : Bool) → length (head_words n s r) ≡ 16
head-length n (Linear d) r = refl
head-length n (Circle z x y) r = refl

module _ (g : Gradient) (full : length g.stops ≡ 16) where
  -- 16 words of the head, and 4 for each of 16 stops
  pub words-length : length (words_of g) ≡ 80
  unfolding words_of
  words-length = rw (length-append, head-length, each-length stop_words 4 (λ s. refl), full)

  -- word k, at 4 k
  word-is : (k : ℕ) → k < 80 → word_at (layout_of g) (4 * k) ≡ get_or (words_of g) k 0
  unfolding layout_of
  word-is k h = word_back (words_of g) k (rw words-length h)

  -- word k of the head
  pub head-word : (k : ℕ) → k < 16 → word_at (layout_of g) (4 * k) ≡ get_or (head_words g.count g.shape g.repeating) k 0
  unfolding words_of
  head-word k h =
      let hs : List ℕ = head_words g.count g.shape g.repeating in
      let l : k < length hs = rw head-length h in
      word-is k (omega arith) ∙ get_or-append hs (each stop_words g.stops) 0 k l

  -- word j of place i
  pub stop-word : (i j o : ℕ) → i < 16 → j < 4 → o ≡ 64 + 16 * i + 4 * j → word_at (layout_of g) o ≡ get_or (stop_words (get_or g.stops i blank_stop)) j 0
  unfolding words_of
  stop-word i j o hi hj e =
      let hs : List ℕ = head_words g.count g.shape g.repeating in
      let ss : List ℕ = each stop_words g.stops in
      let l : length hs ≡ 16 = head-length g.count g.shape g.repeating in
      let k : o ≡ 4 * (length hs + (4 * i + j)) = omega arith in
      let n : i < length g.stops = omega arith in
      rw k
      (word-is (length hs + (4 * i + j)) (omega arith)
      ∙ get_or-append-add hs ss (4 * i + j) 0
      ∙ each_at stop_words 4 (λ s. refl) g.stops i j blank_stop 0 n hj)
