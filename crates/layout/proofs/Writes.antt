-- What the writes of a layout leave in a buffer.
-- Assumes nothing.
use mathlib.Core.Path.{◌≡◌, refl, ap, ◌∙◌}
use mathlib.Core.List.{List, [], ◌∷◌, ◌++◌}
use Prim.Native.Nat.{ℕ, ◌+◌, ◌≤◌}
use native.Mathlib.Omega.{arith}
use lib.ListN.{length}
use Rattle.picture.specs.Picture.{patched}
use Rattle.picture.proofs.Patches.{patch-step}
use Rattle.words.specs.Word.{word_bytes, each}
use Rattle.words.proofs.Each.{each_append, each-length}
use Rattle.gradient.specs.declared.Stop.{Stop}
use Rattle.gradient.specs.declared.Gradient.{Gradient}
use Rattle.layout.specs.Words.{color_word, position_unit, position_word, stop_words, head_words, words_of, layout_of}
use Rattle.layout.proofs.Places.{head-length}

-- the 16 bytes of a stop
abbrev pub stop_bytes : Stop → List ℕ
stop_bytes s = each word_bytes (stop_words s)

-- four words in order are a stop
pub stop-written : (s : Stop) (d b₁ b₂ b₃ b₄ : List ℕ) (at w u n : ℕ) → at + 16 ≤ length d
    → w ≡ color_word s.color → u ≡ position_unit s.position → n ≡ position_word s.position
    → b₁ ≡ patched d at (word_bytes w) → b₂ ≡ patched b₁ (at + 4) (word_bytes u) → b₃ ≡ patched b₂ (at + 8) (word_bytes n)
    → b₄ ≡ patched b₃ (at + 12) (word_bytes 0) → b₄ ≡ patched d at (stop_bytes s)
stop-written s d b₁ b₂ b₃ b₄ at w u n h ew eu en p₁ p₂ p₃ p₄ =
    let q₂ = patch-step d (word_bytes w) (word_bytes u) b₁ b₂ at (at + 4) refl (omega arith) p₁ p₂ in
    let q₃ = patch-step d (word_bytes w ++ word_bytes u) (word_bytes n) b₂ b₃ at (at + 8) refl (omega arith) q₂ p₃ in
    let q₄ = patch-step d (word_bytes w ++ word_bytes u ++ word_bytes n) (word_bytes 0) b₃ b₄ at (at + 12) refl (omega arith) q₃ p₄ in
    let e : w ∷ u ∷ n ∷ 0 ∷ [] ≡ stop_words s = cc in
    q₄ ∙ ap (λ (ws : List ℕ). patched d at (each word_bytes ws)) e

-- the head, then the stops
pub written : (g : Gradient) (ws d b₁ b₂ : List ℕ) → length g.stops ≡ 16 → 320 ≤ length d → ws ≡ head_words g.count g.shape g.repeating
    → b₁ ≡ patched d 0 (each word_bytes ws) → b₂ ≡ patched b₁ 64 (each word_bytes (each stop_words g.stops)) → b₂ ≡ patched d 0 (layout_of g)
unfolding layout_of words_of
written g ws d b₁ b₂ full h e p₁ p₂ =
    let hs : List ℕ = head_words g.count g.shape g.repeating in
    let ss : List ℕ = each stop_words g.stops in
    let l : length (each word_bytes hs) ≡ 64 = rw (each-length word_bytes 4 (λ w. refl), head-length) in
    let k : length (each word_bytes ss) ≡ 256 = rw (each-length word_bytes 4 (λ w. refl), each-length stop_words 4 (λ s. refl), full) in
    rw (each_append word_bytes hs ss)
    (patch-step d (each word_bytes hs) (each word_bytes ss) b₁ b₂ 0 64 (omega arith) (omega arith) (rw e at p₁) p₂)
