-- The layout of a gradient that is accepted reads as that gradient.
-- Assumes nothing.
use mathlib.Core.Path.{◌≡◌, refl, sym, ap, ◌∙◌}
use mathlib.Core.Bool.{Bool, true, false, true≢false, and-eq-true_iff}
use Prim.Native.Nat.{ℕ, ◌+◌, ◌-◌, ◌*◌, ◌/◌, ◌%◌, ◌<◌}
use native.Mathlib.Omega.{arith}
use native.Mathlib.Decide.{dec_lt}
use lib.Dec.{eqb}
use lib.IntN.{ℤ}
use lib.ListN.{length, get_or, drop, length-drop}
use lib.Seq.{get_or-drop}
use mir.Syntax.{w32}
use mir.Val.{of_z, to_z}
use Rattle.words.specs.Word.{word_at}
use Rattle.words.proofs.Back.{sized}
use Rattle.words.proofs.UpTo.{up_to-all}
use Rattle.gradient.specs.Blank.{blank_stop, is_blank, is_clear, is_auto}
use Rattle.gradient.specs.Bytes.{ColorBytes, StopBytes}
use Rattle.gradient.specs.Range.{length_in, percentage_in, coordinate_in, direction_in, size_in, stop_in, position_in, shape_in}
use Rattle.gradient.specs.Check.{blank_past, check_of, Accepted}
use Rattle.gradient.specs.declared.Color.{Color}
use Rattle.gradient.specs.declared.Position.{Position}
use Rattle.gradient.specs.declared.Position.TheVariants as P
use Rattle.gradient.specs.declared.Stop.{Stop}
use Rattle.gradient.specs.declared.Side.TheVariants as S
use Rattle.gradient.specs.declared.Vertical.TheVariants as Ver
use Rattle.gradient.specs.declared.Horizontal.TheVariants as Hor
use Rattle.gradient.specs.declared.Direction.{Direction}
use Rattle.gradient.specs.declared.Direction.TheVariants as D
use Rattle.gradient.specs.declared.Extent.TheVariants as E
use Rattle.gradient.specs.declared.Size.{Size}
use Rattle.gradient.specs.declared.Size.TheVariants as Z
use Rattle.gradient.specs.declared.Coordinate.{Coordinate}
use Rattle.gradient.specs.declared.Coordinate.TheVariants as C
use Rattle.gradient.specs.declared.Shape.{Shape}
use Rattle.gradient.specs.declared.Shape.TheVariants as Sh
use Rattle.gradient.specs.declared.Gradient.{Gradient}
use Rattle.gradient.proofs.Lists.{all-at}
use Rattle.gradient.proofs.Laws.{accepted, length-range, radius-range, percentage-range, angle-range, linear-range, circle-range}
use Rattle.layout.specs.Words.{color_word, position_unit, position_word, direction_code, angle_word, size_extent, size_unit, size_word, coordinate_unit, coordinate_word, head_words, layout_of}
use Rattle.layout.specs.Taken.{color_of, position_at, stop_of, direction_of, size_of, coordinate_of, shape_of, shape_at, stop_at, gradient_at}
use Rattle.layout.proofs.Places.{head-word, stop-word}
use Rattle.layout.proofs.Parts.{gradient-read}

-- ---- numbers
length_back : (t : ℤ) → length_in t ≡ true → to_z w32 (of_z w32 t) ≡ t
length_back t e = let h = length-range t e in sized t (omega arith)

percentage-back : (t : ℤ) → percentage_in t ≡ true → to_z w32 (of_z w32 t) ≡ t
percentage-back t e = let h = percentage-range t e in sized t (omega arith)

-- ---- a stop
color-back : (c : Color) → ColorBytes c → color_of (color_word c) ≡ c
color-back c h =
    let r : color_word c % 256 ≡ c.red = omega arith in
    let q₁ : color_word c / 256 ≡ c.green + c.blue * 256 + c.alpha * 65536 = omega arith in
    let g : color_word c / 256 % 256 ≡ c.green = rw q₁ (omega arith) in
    let q₂ : color_word c / 65536 ≡ c.blue + c.alpha * 256 = omega arith in
    let b : color_word c / 65536 % 256 ≡ c.blue = rw q₂ (omega arith) in
    let a : color_word c / 16777216 ≡ c.alpha = omega arith in
    same r g b a
  where
    same : {p q r s x y z w : ℕ} → p ≡ x → q ≡ y → r ≡ z → s ≡ w
        → ◌≡◌ {A = Color} (record { red = p; green = q; blue = r; alpha = s }) (record { red = x; green = y; blue = z; alpha = w })
    same e₁ e₂ e₃ e₄ = cc

position-back : (p : Position) → position_in p ≡ true → position_at (position_unit p) (position_word p) ≡ p
position-back P.Auto e = refl
position-back (P.Length t) e = ap P.Length (length_back t e)
position-back (P.Percentage t) e = ap P.Percentage (percentage-back t e)

stop-back : (s : Stop) → ColorBytes s.color → stop_in s ≡ true → stop_of (color_word s.color) (position_unit s.position) (position_word s.position) ≡ s
stop-back s h e = same (color-back s.color h) (position-back s.position e)
  where
    same : {c d : Color} {p q : Position} → c ≡ d → p ≡ q → ◌≡◌ {A = Stop} (record { color = c; position = p }) (record { color = d; position = q })
    same e₁ e₂ = cc

-- ---- the shape
direction-back : (d : Direction) → direction_in d ≡ true → direction_of (direction_code d) (angle_word d) ≡ d
direction-back (D.Side S.Top) e = refl
direction-back (D.Side S.Right) e = refl
direction-back (D.Side S.Bottom) e = refl
direction-back (D.Side S.Left) e = refl
direction-back (D.Corner Ver.Top Hor.Left) e = refl
direction-back (D.Corner Ver.Top Hor.Right) e = refl
direction-back (D.Corner Ver.Bottom Hor.Left) e = refl
direction-back (D.Corner Ver.Bottom Hor.Right) e = refl
direction-back (D.Angle a) e = let h = (angle-range a e).0 in ap D.Angle (sized a (omega arith))

size_back : (z : Size) → size_in z ≡ true → size_of (size_extent z) (size_unit z) (size_word z) ≡ z
size_back (Z.Extent E.ClosestSide) e = refl
size_back (Z.Extent E.ClosestCorner) e = refl
size_back (Z.Extent E.FarthestSide) e = refl
size_back (Z.Extent E.FarthestCorner) e = refl
size_back (Z.Length t) e = let h = (radius-range t e).1 in ap Z.Length (sized t (omega arith))

coordinate-back : (c : Coordinate) → coordinate_in c ≡ true → coordinate_of (coordinate_unit c) (coordinate_word c) ≡ c
coordinate-back (C.Length t) e = ap C.Length (length_back t e)
coordinate-back (C.Percentage t) e = ap C.Percentage (percentage-back t e)

shape-back : (n : ℕ) (s : Shape) (r : Bool) → shape_in s ≡ true → (w : ℕ → ℕ) → ((k : ℕ) → k < 16 → w k ≡ get_or (head_words n s r) k 0) → shape_of w ≡ s
shape-back n (Sh.Linear d) r e w h =
    rw (h 1 (omega arith), h 3 (omega arith), h 4 (omega arith)) (ap Sh.Linear (direction-back d (linear-range d e)))
shape-back n (Sh.Circle z x y) r e w h =
    let k = circle-range z x y e in
    rw (h 1 (omega arith), h 5 (omega arith), h 6 (omega arith), h 7 (omega arith), h 10 (omega arith), h 11 (omega arith), h 13 (omega arith), h 14 (omega arith))
    (same (size_back z k.0) (coordinate-back x k.1) (coordinate-back y k.2))
  where
    same : {a b : Size} {p q r s : Coordinate} → a ≡ b → p ≡ q → r ≡ s → Sh.Circle a p r ≡ Sh.Circle b q s
    same e₁ e₂ e₃ = cc

count-back : (n : ℕ) (s : Shape) (r : Bool) → get_or (head_words n s r) 0 0 ≡ n
count-back n (Sh.Linear d) r = refl
count-back n (Sh.Circle z x y) r = refl

repeating-back : (n : ℕ) (s : Shape) (r : Bool) → eqb (get_or (head_words n s r) 2 0) 1 ≡ r
repeating-back n (Sh.Linear d) true = refl
repeating-back n (Sh.Linear d) false = refl
repeating-back n (Sh.Circle z x y) true = refl
repeating-back n (Sh.Circle z x y) false = refl

-- ---- every place of a gradient that is accepted is in range: a stop, or blank
blank-in : (s : Stop) → is_blank s ≡ true → stop_in s ≡ true
unfolding is_blank
blank-in s e = go s.position ((and-eq-true_iff (is_clear s.color) (is_auto s.position)).0 e).1
  where
    go : (p : Position) → is_auto p ≡ true → position_in p ≡ true
    go P.Auto e = refl
    go (P.Length t) e = absurd (true≢false (sym e))
    go (P.Percentage t) e = absurd (true≢false (sym e))

place-in : (g : Gradient) → Accepted g → length g.stops ≡ 16 → (i : ℕ) → i < 16 → stop_in (get_or g.stops i blank_stop) ≡ true
unfolding blank_past
place-in g a full i h = go (dec_lt i g.count)
  where
    go : Dec (i < g.count) → stop_in (get_or g.stops i blank_stop) ≡ true
    go (yes k) = a.stops i k
    go (no k) =
        let n : length (drop g.count g.stops) ≡ 16 - g.count = rw (length-drop, full) in
        let e : g.count + (i - g.count) ≡ i = omega arith in
        let b = all-at is_blank (drop g.count g.stops) a.blank (i - g.count) blank_stop (omega arith) in
        blank-in (get_or g.stops i blank_stop) (rw (get_or-drop, e) at b)

-- ---- the whole
module _ (g : Gradient) (full : length g.stops ≡ 16) (bytes : StopBytes g.stops) (ok : check_of g ≡ 0) where
  shape-read : shape_at (layout_of g) ≡ g.shape
  unfolding shape_at
  shape-read = shape-back g.count g.shape g.repeating (accepted g ok).shape (λ (k : ℕ). word_at (layout_of g) (4 * k)) (head-word g full)

  stop-read : (i : ℕ) → i < 16 → stop_at (layout_of g) i ≡ get_or g.stops i blank_stop
  unfolding stop_at
  stop-read i h =
      same (stop-word g full i 0 (64 + 16 * i) h (omega arith) (omega arith))
      (stop-word g full i 1 (68 + 16 * i) h (omega arith) (omega arith))
      (stop-word g full i 2 (72 + 16 * i) h (omega arith) (omega arith))
      ∙ stop-back (get_or g.stops i blank_stop) (bytes i) (place-in g (accepted g ok) full i h)
    where
      same : {a b c x y z : ℕ} → a ≡ x → b ≡ y → c ≡ z → stop_of a b c ≡ stop_of x y z
      same p q r = cc

  -- reading the layout gives the gradient
  pub read_back : gradient_at (layout_of g) ≡ g
  read_back =
      sym (gradient-read (layout_of g) (sym shape-read)
      (sym (ap (λ (w : ℕ). eqb w 1) (head-word g full 2 (omega arith)) ∙ repeating-back g.count g.shape g.repeating))
      (sym (head-word g full 0 (omega arith) ∙ count-back g.count g.shape g.repeating))
      (sym (up_to-all 16 (stop_at (layout_of g)) g.stops blank_stop full stop-read)))
