-- Strips that are drawn column by column: how they begin, a part of a row more, and how they end.
-- Assumes nothing.
use mathlib.Core.Path.{◌≡◌, refl, sym, ap, ap₂, ◌∙◌}
use mathlib.Core.Bool.{Bool, true, false, cond}
use mathlib.Core.List.{List, ◌++◌, append_assoc}
use Prim.Native.Nat.{ℕ, zero, suc, ◌+◌, ◌-◌, ◌*◌, ◌/◌, ◌%◌, ◌≤◌, ◌<◌}
use native.Mathlib.Nat.{zero-add, add-zero, div-add-mod', mod-lt, div-lt_iff_lt-mul}
use native.Mathlib.Omega.{arith}
use lib.Dec.{ltb}
use lib.ListN.{length, get_or, take, drop, length-append, length-drop}
use lib.Seq.{length-take-le, ext_get_or, get_or-take, get_or-drop}
use borrow.Author.Tests.{lt-ltb, le-ltb}
use Rattle.picture.specs.Picture.{row, part, strip, patched}
use Rattle.picture.proofs.Rows.{row-part, part-add, part_length, parts-alike, strip-none, strip-more, strip-join, strip-split, strips-alike, strip-length, strip-at}
use Rattle.picture.proofs.Patches.{patch-self, patch-within}
use Rattle.straight.specs.Begun.{four_at, standing, up_to, Begun, Continued}

-- a byte of four
four-at : (d : List ℕ) (o c : ℕ) → c < 4 → ◌≡◌ {A = ℕ} (get_or (four_at d o) c 0) (get_or d (o + c) 0)
four-at d o zero h = ap (λ (k : ℕ). get_or d k 0) (sym (add-zero o))
four-at d o (suc zero) h = refl
four-at d o (suc (suc zero)) h = refl
four-at d o (suc (suc (suc zero))) h = refl
four-at d o (suc (suc (suc (suc c)))) h = absurd (omega arith)

-- the same of other pixels, if they are alike
pub begun-alike : (px qx f : ℕ → ℕ → List ℕ) → ((i j : ℕ) → px i j ≡ qx i j) → (w a b i : ℕ) (d : List ℕ) (at : ℕ) (c : List ℕ) → Begun px w a b i f d at c → Begun qx w a b i f d at c
unfolding up_to
begun-alike px qx f e w a b i d at c h = h ∙ ap (patched d at) (strips-alike (up_to px i f) (up_to qx i f) w a b (λ k j l m n. ap (λ (x : List ℕ). cond (ltb k i) x (f k j)) (e k j)))

-- a row in three parts
cut : (q : ℕ → ℕ → List ℕ) (i n r j : ℕ) → row q (i + n + r) j ≡ part q 0 i j ++ part q i n j ++ part q (i + n) r j
cut q i n r j =
    row-part q (i + n + r) j ∙ part-add q 0 (i + n) r j
    ∙ ap₂ (λ (x y : List ℕ). x ++ y) (part-add q 0 i n j ∙ ap (λ (k : ℕ). part q 0 i j ++ part q k n j) (zero-add i)) (ap (λ (k : ℕ). part q k r j) (zero-add (i + n)))

module _ (px : ℕ → ℕ → List ℕ) (f : ℕ → ℕ → List ℕ) where
  drawn : (i k j : ℕ) → k < i → up_to px i f k j ≡ px k j
  unfolding up_to
  drawn i k j h = rw (lt-ltb k i h)

  left : (i k j : ℕ) → i ≤ k → up_to px i f k j ≡ f k j
  unfolding up_to
  left i k j h = rw (le-ltb k i h)

  -- all is drawn
  pub columns-all : (w a b : ℕ) → strip (up_to px w f) w a b ≡ strip px w a b
  columns-all w a b = strips-alike (up_to px w f) px w a b (λ i j h k l. drawn w i j h)

  module _ (each : (i j : ℕ) → length (px i j) ≡ 4) (four : (k j : ℕ) → length (f k j) ≡ 4) where
    four-up : (i k j : ℕ) → length (up_to px i f k j) ≡ 4
    unfolding up_to
    four-up i k j = go (ltb k i)
      where
        go : (x : Bool) → length (cond x (px k j) (f k j)) ≡ 4
        go true = each k j
        go false = four k j

    -- row j before and after n of its pixels, from pixel i on, are drawn; r pixels are left
    module _ (w i n r j : ℕ) (e : w ≡ i + n + r) where
      first_part : (k : ℕ) → i ≤ k → part (up_to px k f) 0 i j ≡ part px 0 i j
      first_part k h = parts-alike (up_to px k f) px 0 0 i j j (λ p l. drawn k (0 + p) j (omega arith))

      row_before : row (up_to px i f) w j ≡ part px 0 i j ++ part (up_to px i f) i n j ++ part (up_to px i f) (i + n) r j
      row_before =
          let u : ℕ → ℕ → List ℕ = up_to px i f in
          ap (λ (m : ℕ). row u m j) e ∙ cut u i n r j ∙ ap (λ (x : List ℕ). x ++ part u i n j ++ part u (i + n) r j) (first_part i (omega arith))

      row-after : row (up_to px (i + n) f) w j ≡ part px 0 i j ++ part px i n j ++ part (up_to px i f) (i + n) r j
      row-after =
          let u : ℕ → ℕ → List ℕ = up_to px (i + n) f in
          let m : part u i n j ≡ part px i n j = parts-alike u px i i n j j (λ p l. drawn (i + n) (i + p) j (omega arith)) in
          let z : part u (i + n) r j ≡ part (up_to px i f) (i + n) r j =
          parts-alike u (up_to px i f) (i + n) (i + n) r j j (λ p l. left (i + n) (i + n + p) j (omega arith) ∙ sym (left i (i + n + p) j (omega arith))) in
          ap (λ (k : ℕ). row u k j) e ∙ cut u i n r j ∙ rw (first_part (i + n) (omega arith), m, z)

      -- a turn of a loop over the rows: those before row j have i + n columns, those from there on i
      pub columns-step : (a b at o : ℕ) (d c c' : List ℕ) → a ≤ j → j < b → at ≤ length d → o ≡ at + (4 * w * (j - a) + 4 * i)
          → c ≡ patched d at (strip (up_to px (i + n) f) w a j ++ strip (up_to px i f) w j b) → c' ≡ patched c o (part px i n j)
          → c' ≡ patched d at (strip (up_to px (i + n) f) w a (j + 1) ++ strip (up_to px i f) w (j + 1) b)
      columns-step a b at o d c c' h l room g p q =
          let u : ℕ → ℕ → List ℕ = up_to px i f in
          let v : ℕ → ℕ → List ℕ = up_to px (i + n) f in
          let x : List ℕ = strip v w a j ++ part px 0 i j in
          let y : List ℕ = part u (i + n) r j ++ strip u w (j + 1) b in
          let before : strip v w a j ++ strip u w j b ≡ x ++ part u i n j ++ y = rw (strip-split u w j j b (omega arith) l, strip-none, row_before) (simp append_assoc) in
          let after : x ++ part px i n j ++ y ≡ strip v w a (j + 1) ++ strip u w (j + 1) b = rw (strip-more v w a j h, row-after) (simp append_assoc) in
          let m : length (part u i n j) ≡ length (part px i n j) = part_length u (four-up i) i n j ∙ sym (part_length px each i n j) in
          let z : o ≡ at + length x = g ∙ rw (length-append, strip-length v (four-up (i + n)) w a j, part_length px each 0 i j) in
          q ∙ ap (λ (k : List ℕ). patched k o (part px i n j)) (p ∙ ap (patched d at) before)
          ∙ patch-within d x (part u i n j) y (part px i n j) at o m room z ∙ ap (patched d at) after

    -- a turn of a loop over rows j up to k: those before them have m columns, and they and those after them i
    pub rows_step : (w i m a b j k at o : ℕ) (d c c' : List ℕ) → a ≤ j → j ≤ k → k ≤ b → at ≤ length d → o ≡ at + 4 * w * (j - a)
        → c ≡ patched d at (strip (up_to px m f) w a j ++ strip (up_to px i f) w j b) → Continued px w j k i m o c c'
        → c' ≡ patched d at (strip (up_to px m f) w a k ++ strip (up_to px i f) w k b)
    rows_step w i m a b j k at o d c c' h l g room e p q =
        let u : ℕ → ℕ → List ℕ = up_to px i f in
        let v : ℕ → ℕ → List ℕ = up_to px m f in
        let x : List ℕ = strip v w a j in
        let y : List ℕ = strip u w k b in
        let z : o ≡ at + length x = e ∙ ap (λ (n : ℕ). at + n) (sym (strip-length v (four-up m) w a j)) in
        let n : length (strip u w j k) ≡ length (strip v w j k) = strip-length u (four-up i) w j k ∙ sym (strip-length v (four-up m) w j k) in
        let whole : c ≡ patched d at (x ++ strip u w j k ++ y) = p ∙ ap (λ (s : List ℕ). patched d at (x ++ s)) (sym (strip-join u w j k b l g)) ∙ ap (patched d at) (sym (append_assoc x (strip u w j k) y)) in
        let there : c ≡ patched c o (strip u w j k) = whole ∙ sym (ap (λ (s : List ℕ). patched s o (strip u w j k)) whole ∙ patch-within d x (strip u w j k) y (strip u w j k) at o refl room z) in
        q f c four refl there ∙ ap (λ (s : List ℕ). patched s o (strip v w j k)) whole ∙ patch-within d x (strip u w j k) y (strip v w j k) at o n room z
        ∙ ap (λ (s : List ℕ). patched d at (s ++ y)) (strip-join v w a j k h l)

module _ (px : ℕ → ℕ → List ℕ) (d : List ℕ) (at w a b : ℕ) (room : at + 4 * w * (b - a) ≤ length d) (some : 0 < w) where
  -- nothing is drawn
  pub columns-none : Begun px w a b 0 (standing d at w a) d at d
  columns-none =
      patch-self d at (4 * w * (b - a)) room ∙ ap (patched d at) (sym (ext_get_or 0 (strip u w a b) (take (4 * w * (b - a)) (drop at d)) (size ∙ sym lengths) byte))
    where
      u : ℕ → ℕ → List ℕ
      u = up_to px 0 (standing d at w a)

      fours : (k j : ℕ) → length (u k j) ≡ 4
      fours k j = ap length (left px (standing d at w a) 0 k j (omega arith))

      size : length (strip u w a b) ≡ 4 * w * (b - a)
      size = strip-length u fours w a b

      lengths : length (take (4 * w * (b - a)) (drop at d)) ≡ 4 * w * (b - a)
      lengths = length-take-le (4 * w * (b - a)) (drop at d) (rw length-drop (omega arith))

      byte : (k : ℕ) → k < length (strip u w a b) → get_or (strip u w a b) k 0 ≡ get_or (take (4 * w * (b - a)) (drop at d)) k 0
      byte k h =
          let l : k < 4 * w * (b - a) = rw size at h in
          let q : ℕ = k / 4 in
          let c : ℕ = k % 4 in
          let i : ℕ = q % w in
          let j : ℕ = q / w in
          let e : j * w + i ≡ q = div-add-mod' q w in
          let f : k ≡ 4 * (j * w + i) + c = omega arith in
          let hi : i < w = mod-lt q some in
          let hj : j < b - a = (div-lt_iff_lt-mul some).1 (omega arith) in
          let g : a + j - a ≡ j = omega arith in
          let z : at + 4 * (j * w + i) + c ≡ at + k = omega arith in
          ap (λ (m : ℕ). get_or (strip u w a b) m 0) f ∙ strip-at u fours w a b i j c 0 hi hj (omega arith)
          ∙ ap (λ (s : List ℕ). get_or s c 0) (left px (standing d at w a) 0 i (a + j) (omega arith)) ∙ four-at d (at + 4 * ((a + j - a) * w + i)) c (omega arith)
          ∙ ap (λ (m : ℕ). get_or d (at + 4 * (m * w + i) + c) 0) g ∙ ap (λ (m : ℕ). get_or d m 0) z
          ∙ sym (get_or-take (4 * w * (b - a)) (drop at d) k 0 l ∙ get_or-drop at d k 0)

  -- all columns
  pub columns-drawn : (c : List ℕ) → Continued px w a b 0 w at d c → c ≡ patched d at (strip px w a b)
  columns-drawn c h = h (standing d at w a) d (λ k j. refl) refl columns-none ∙ ap (patched d at) (columns-all px (standing d at w a) w a b)
