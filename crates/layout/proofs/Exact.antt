-- A gradient and its layout give each other, and no other slice is taken.
-- Assumes nothing.
use mathlib.Core.Path.{◌≡◌, refl, sym, ap, ◌∙◌}
use mathlib.Core.List.{List}
use Prim.Native.Nat.{ℕ}
use lib.ListN.{length}
use borrow.Author.Tests.{not-false}
use Rattle.replies.proofs.Laws.{or_else-zero, given-zero}
use Rattle.words.specs.Word.{word_bytes}
use Rattle.words.proofs.Each.{each-length}
use Rattle.words.proofs.Equal.{equal-refl, equal-yes}
use Rattle.gradient.specs.Bytes.{StopBytes}
use Rattle.gradient.specs.Check.{check_of}
use Rattle.gradient.specs.declared.Gradient.{Gradient}
use Rattle.layout.specs.Words.{layout_of}
use Rattle.layout.specs.Taken.{gradient_at, Taken, taken_reply, taken_of}
use Rattle.layout.proofs.Places.{words-length}
use Rattle.layout.proofs.Back.{read_back}

-- a layout is 320 bytes
pub layout-length : (g : Gradient) → length g.stops ≡ 16 → length (layout_of g) ≡ 320
unfolding layout_of
layout-length g full = rw (each-length word_bytes 4 (λ w. refl), words-length g full)

-- what is taken is what was read
pub taken-gradient : (s : List ℕ) → taken_reply s ≡ 0 → taken_of s ≡ record { reply = 0; gradient = gradient_at s }
unfolding taken_of
taken-gradient s e = rw e

-- the layout of a gradient that is accepted is taken, and gives the gradient
pub taken_back : (g : Gradient) → length g.stops ≡ 16 → StopBytes g.stops → check_of g ≡ 0 → taken_of (layout_of g) ≡ record { reply = 0; gradient = g }
unfolding taken_reply
taken_back g full bytes ok =
    let e : gradient_at (layout_of g) ≡ g = read_back g full bytes ok in
    let z : taken_reply (layout_of g) ≡ 0 = rw (e, equal-refl (layout_of g)) ok in
    taken-gradient (layout_of g) z ∙ ap (λ (h : Gradient). record { reply = 0; gradient = h }) e

-- a slice that is taken is the layout of the gradient that it gives, and that is accepted
pub taken-only : (s : List ℕ) → (taken_of s).reply ≡ 0 → (s ≡ layout_of (taken_of s).gradient) × (check_of (taken_of s).gradient ≡ 0)
unfolding taken_of taken_reply
taken-only s e =
    let k = or_else-zero _ _ e in
    let g : (taken_of s).gradient ≡ gradient_at s = ap (λ (t : Taken). t.gradient) (taken-gradient s e) in
    (equal-yes s (layout_of (gradient_at s)) (not-false _ (given-zero _ _ k.0)) ∙ ap layout_of (sym g), ap check_of g ∙ k.1)
