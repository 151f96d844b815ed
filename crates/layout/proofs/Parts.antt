-- What is read part by part is the whole.
-- Assumes nothing.
use mathlib.Core.Path.{◌≡◌, sym, ◌∙◌}
use mathlib.Core.Bool.{Bool}
use mathlib.Core.List.{List}
use Prim.Native.Nat.{ℕ}
use lib.Dec.{eqb}
use borrow.Author.Tests.{eq-eqb, ne_eqb}
use Rattle.words.specs.Word.{word_at, up_to}
use Rattle.gradient.specs.declared.Stop.{Stop}
use Rattle.gradient.specs.declared.Direction.{Direction}
use Rattle.gradient.specs.declared.Size.{Size}
use Rattle.gradient.specs.declared.Coordinate.{Coordinate}
use Rattle.gradient.specs.declared.Shape.{Shape}
use Rattle.gradient.specs.declared.Shape.TheVariants.{Linear, Circle}
use Rattle.gradient.specs.declared.Gradient.{Gradient}
use Rattle.layout.specs.Taken.{direction_of, size_of, coordinate_of, shape_at, stop_at, gradient_at}

module _ (s : List ℕ) {t : ℕ} (e : t ≡ word_at s 4) where
  -- a circle, of the words of its size and its center
  pub circle-read : t ≡ 1 → {z : Size} {x y : Coordinate} {c u n v p w q : ℕ}
      → c ≡ word_at s 20 → u ≡ word_at s 24 → n ≡ word_at s 28 → z ≡ size_of c u n
      → v ≡ word_at s 40 → p ≡ word_at s 44 → x ≡ coordinate_of v p
      → w ≡ word_at s 52 → q ≡ word_at s 56 → y ≡ coordinate_of w q → Circle z x y ≡ shape_at s
  unfolding shape_at
  circle-read k e₅ e₆ e₇ f e₁₀ e₁₁ g e₁₃ e₁₄ h =
      rw (eq-eqb (word_at s 4) 1 (sym e ∙ k), f, g, h, e₅, e₆, e₇, e₁₀, e₁₁, e₁₃, e₁₄)

  -- a line, of the words of its direction
  pub linear-read : (t ≡ 1 → ⊥) → {d : Direction} {c a : ℕ} → c ≡ word_at s 12 → a ≡ word_at s 16 → d ≡ direction_of c a → Linear d ≡ shape_at s
  unfolding shape_at
  linear-read k e₃ e₄ f = rw (ne_eqb (word_at s 4) 1 (λ j. k (e ∙ j)), f, e₃, e₄)

-- a gradient, of its shape, its flag, its count and its stops
pub gradient-read : (s : List ℕ) {a : Shape} {b : Bool} {n : ℕ} {l : List Stop}
    → a ≡ shape_at s → b ≡ eqb (word_at s 8) 1 → n ≡ word_at s 0 → l ≡ up_to 16 (stop_at s)
    → ◌≡◌ {A = Gradient} (record { shape = a; repeating = b; count = n; stops = l }) (gradient_at s)
unfolding gradient_at
gradient-read s e₁ e₂ e₃ e₄ = cc
