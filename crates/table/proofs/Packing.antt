-- Packed colors: the colors of lent stops, and their bytes.
-- Assumes nothing.
use mathlib.Core.Path.{◌≡◌, refl, ap, subst}
use mathlib.Core.List.{List}
use Prim.Native.Nat.{ℕ, zero, suc, ◌+◌, ◌-◌, ◌*◌, ◌/◌, ◌%◌, ◌≤◌}
use native.Mathlib.Decide.{dec_le}
use native.Mathlib.Omega.{arith}
use lib.Dec.{leb}
use lib.ListN.{length, get_or}
use Rattle.numbers.specs.Fraction.{◌⁄◌, nearest}
use Rattle.numbers.specs.Biased.{unbiased}
use Rattle.color.specs.Stop.{Channel, red, green, blue, alpha}
use Rattle.color.specs.Byte.{rgba, bytes, color_at}
use Rattle.color.specs.Lent.{Small, Lent, stops_of, values_at, last_up_to}
use Rattle.color.specs.declared.Rgba.{Rgba}
use Rattle.color.proofs.Place.{last}
use Rattle.color.proofs.Mix.{mix-byte}
use Rattle.color.proofs.Lent.{color-first, color-last, between, color-between}
use Rattle.words.specs.Word.{word_bytes}
use Rattle.table.specs.Table.{packed, entry_of}

-- the bytes of a color are found again in what they are packed into
abbrev Found : Rgba → Type 0
Found p = word_bytes (packed p) ≡ bytes p

found : (p : Rgba) → p.red ≤ 255 → p.green ≤ 255 → p.blue ≤ 255 → p.alpha ≤ 255 → Found p
found p hr hg hb ha =
    let r : ℕ = p.red in
    let g : ℕ = p.green in
    let b : ℕ = p.blue in
    let a : ℕ = p.alpha in
    let e₀ : packed p % 256 ≡ r = omega arith in
    let q₁ : packed p / 256 ≡ g + 256 * b + 65536 * a = omega arith in
    let q₂ : packed p / 65536 ≡ b + 256 * a = omega arith in
    let e₃ : packed p / 16777216 ≡ a = omega arith in
    let e₁ : (g + 256 * b + 65536 * a) % 256 ≡ g = omega arith in
    let e₂ : (b + 256 * a) % 256 ≡ b = omega arith in
    cc

values-small : (vs : List ℕ) → Small vs → (i : ℕ) (c : Channel) → values_at vs i c ≤ 65025
values-small vs h i red = h (4 * i)
values-small vs h i green = h (4 * i + 1)
values-small vs h i blue = h (4 * i + 2)
values-small vs h i alpha = h (4 * i + 3)

module _ (ps vs : List ℕ) (h : Lent ps vs) where
  -- the color that is found at a biased location is the entry
  pub entry-is : (p : Rgba) (at : ℕ) → p ≡ color_at (stops_of ps vs) (unbiased at) → packed p ≡ entry_of ps vs at
  unfolding entry_of
  entry-is p at e = ap packed e

  stop-small : (i : ℕ) (c : Channel) → nearest (values_at vs i c ⁄ 255) ≤ 255
  stop-small i c = omega (arith, values-small vs h.small i c)

  color-found : (at : ℕ) → Found (color_at (stops_of ps vs) (unbiased at))
  color-found at = go (last_up_to ps at) refl
    where
      same : (f : Channel → ℕ) → ((c : Channel) → f c ≤ 255) → rgba f ≡ color_at (stops_of ps vs) (unbiased at) → Found (color_at (stops_of ps vs) (unbiased at))
      same f l e = subst Found e (found (rgba f) (l red) (l green) (l blue) (l alpha))

      pair : (i : ℕ) → suc i ≡ last_up_to ps at → (suc i ≡ length ps → ⊥) → Found (color_at (stops_of ps vs) (unbiased at))
      pair i e n =
          let b = between ps vs h at i e n in
          let l = values-small vs h.small in
          same _ (λ c. mix-byte (values_at vs i c) (values_at vs (i + 1) c) (at - get_or ps i 0) (get_or ps (i + 1) 0 - at) (l i c) (l (i + 1) c) (omega (arith, b.above))) (color-between ps vs h at i e n)

      either : (i : ℕ) → suc i ≡ last_up_to ps at → Dec (length ps ≤ suc i) → Found (color_at (stops_of ps vs) (unbiased at))
      either i e (yes l) = same _ (stop-small i) (color-last ps vs h at i e (omega (arith, (last (λ (p : ℕ). leb p at) 0 ps).within)))
      either i e (no l) = pair i e (λ m. omega arith)

      go : (k : ℕ) → k ≡ last_up_to ps at → Found (color_at (stops_of ps vs) (unbiased at))
      go zero e = same _ (stop-small 0) (color-first ps vs h at e)
      go (suc i) e = either i e (dec_le (length ps) (suc i))

  -- the bytes of an entry are the color's
  pub entry-bytes : (at : ℕ) → word_bytes (entry_of ps vs at) ≡ bytes (color_at (stops_of ps vs) (unbiased at))
  unfolding entry_of
  entry-bytes at = color-found at
