-- Laws of rows, strips, pictures and of the buffer that holds one.
-- Assumes nothing.
use mathlib.Core.Path.{◌≡◌, refl, sym, ap, ◌∙◌}
use mathlib.Core.List.{List, [], ◌∷◌, ◌++◌, append_assoc, append-nil}
use Prim.Native.Nat.{ℕ, zero, suc, ◌+◌, ◌-◌, ◌*◌, ◌≤◌, ◌<◌}
use native.Mathlib.Nat.{add-zero, zero-add, add-suc, suc-add, sub_self, sub-zero, mul-zero, mul-suc, mul-le-mul_left, le_of_suc-le-suc}
use native.Mathlib.Omega.{arith}
use lib.ListN.{length, get_or, replicate, length-append, length-replicate, get_or-append}
use lib.Seq.{get_or-append-add}
use Rattle.picture.specs.Picture.{joined, copies, row, part, strip, picture, padded, buffer}

-- ---- lists joined
module _ {A : Type 0} (f : ℕ → List A) where
  pub joined-none : (a : ℕ) → joined f a 0 ≡ []
  unfolding joined
  joined-none a = refl

  -- two runs in order are one
  pub joined-add : (a m n : ℕ) → joined f a (m + n) ≡ joined f a m ++ joined f (a + m) n
  unfolding joined
  joined-add a zero n = rw (zero-add, add-zero)
  joined-add a (suc m) n = rw (suc-add, joined-add (suc a) m n, append_assoc, suc-add, add-suc)

  pub joined-one : (a : ℕ) → joined f a 1 ≡ f a
  unfolding joined
  joined-one a = append-nil (f a)

  -- one more
  pub joined-more : (a n : ℕ) → joined f a (n + 1) ≡ joined f a n ++ f (a + n)
  joined-more a n = rw (joined-add a n 1, joined-one (a + n))

  -- where the lists are equal, what is joined is
  pub joined_same : (g : ℕ → List A) (a b n : ℕ) → ((k : ℕ) → k < n → f (a + k) ≡ g (b + k)) → joined f a n ≡ joined g b n
  unfolding joined
  joined_same g a b zero h = refl
  joined_same g a b (suc n) h =
      let here : f a ≡ g b = rw (add-zero, add-zero) at (h 0 (omega arith)) in
      rw (here, joined_same g (suc a) (suc b) n (λ k l. rw (suc-add a k, ← add-suc a k, suc-add b k, ← add-suc b k) (h (suc k) (omega arith))))

  module _ (k : ℕ) (each : (q : ℕ) → length (f q) ≡ k) where
    -- n lists of k elements
    pub joined_length : (a n : ℕ) → length (joined f a n) ≡ k * n
    unfolding joined
    joined_length a zero = sym (mul-zero k)
    joined_length a (suc n) = rw (length-append, each a, joined_length (suc a) n, mul-suc) (omega arith)

    -- element c of list q
    pub joined_at : (a n q c : ℕ) (d : A) → q < n → c < k → get_or (joined f a n) (k * q + c) d ≡ get_or (f (a + q)) c d
    unfolding joined
    joined_at a zero q c d hq hc = absurd (omega arith)
    joined_at a (suc n) zero c d hq hc =
        let h : c < length (f a) = rw (each a) hc in
        rw (mul-zero, zero-add, add-zero, get_or-append (f a) (joined f (suc a) n) d c h)
    joined_at a (suc n) (suc q) c d hq hc =
        let e : k * suc q + c ≡ length (f a) + (k * q + c) = rw (each a, mul-suc) (omega arith) in
        rw (e, get_or-append-add, joined_at (suc a) n q c d (le_of_suc-le-suc hq) hc, suc-add, add-suc)

-- ---- copies of one list
module _ {A : Type 0} (s : List A) where
  pub copies_length : (n : ℕ) → length (copies n s) ≡ length s * n
  copies_length n = joined_length (λ (k : ℕ). s) (length s) (λ (k : ℕ). refl) 0 n

  pub copies-more : (n : ℕ) → copies (n + 1) s ≡ copies n s ++ s
  copies-more n = joined-more (λ (k : ℕ). s) 0 n

-- ---- rows and strips
module _ {A : Type 0} (px : ℕ → ℕ → List A) where
  pub row-none : (j : ℕ) → row px 0 j ≡ []
  unfolding row
  row-none j = joined-none (λ (i : ℕ). px i j) 0

  -- one pixel more
  pub row_more : (w j : ℕ) → row px (w + 1) j ≡ row px w j ++ px w j
  unfolding row
  row_more w j = rw zero-add at (joined-more (λ (i : ℕ). px i j) 0 w)

  -- a row is the part of all its pixels
  pub row-part : (w j : ℕ) → row px w j ≡ part px 0 w j
  unfolding row part
  row-part w j = refl

  pub part_none : (i j : ℕ) → part px i 0 j ≡ []
  unfolding part
  part_none i j = joined-none (λ (k : ℕ). px k j) i

  -- one pixel more
  pub part-more : (i n j : ℕ) → part px i (n + 1) j ≡ part px i n j ++ px (i + n) j
  unfolding part
  part-more i n j = joined-more (λ (k : ℕ). px k j) i n

  -- two parts in order are one
  pub part-add : (i m n j : ℕ) → part px i (m + n) j ≡ part px i m j ++ part px (i + m) n j
  unfolding part
  part-add i m n j = joined-add (λ (k : ℕ). px k j) i m n

  -- two parts of equal pixels, of two pictures or of one
  pub parts-alike : (qx : ℕ → ℕ → List A) (i k n j m : ℕ) → ((p : ℕ) → p < n → px (i + p) j ≡ qx (k + p) m) → part px i n j ≡ part qx k n m
  unfolding part
  parts-alike qx i k n j m h = joined_same (λ (p : ℕ). px p j) (λ (p : ℕ). qx p m) i k n h

  pub strip-none : (w a : ℕ) → strip px w a a ≡ []
  unfolding strip
  strip-none w a = rw (sub_self, joined-none)

  -- one row more
  pub strip-more : (w a b : ℕ) → a ≤ b → strip px w a (b + 1) ≡ strip px w a b ++ row px w b
  unfolding strip
  strip-more w a b h =
      let e : b + 1 - a ≡ b - a + 1 = omega arith in
      let s : a + (b - a) ≡ b = omega arith in
      rw (e, joined-more (row px w) a (b - a), s)

  -- strips in order are the strip of all their rows, whatever the cut
  pub strip-join : (w a b c : ℕ) → a ≤ b → b ≤ c → strip px w a b ++ strip px w b c ≡ strip px w a c
  unfolding strip
  strip-join w a b c h k =
      let e : c - a ≡ (b - a) + (c - b) = omega arith in
      let s : a + (b - a) ≡ b = omega arith in
      sym (rw (e, joined-add (row px w) a (b - a) (c - b), s))

  -- the rows before row k, row k, and those after it
  pub strip-split : (w a k b : ℕ) → a ≤ k → k < b → strip px w a b ≡ strip px w a k ++ row px w k ++ strip px w (k + 1) b
  strip-split w a k b h l =
      sym (ap (λ (s : List A). s ++ strip px w (k + 1) b) (sym (strip-more w a k h)) ∙ strip-join w a (k + 1) b (omega arith) (omega arith))

  -- two strips of equal pixels
  pub strips-alike : (qx : ℕ → ℕ → List A) (w a b : ℕ) → ((i j : ℕ) → i < w → a ≤ j → j < b → px i j ≡ qx i j) → strip px w a b ≡ strip qx w a b
  unfolding strip row
  strips-alike qx w a b h =
      joined_same (row px w) (row qx w) a a (b - a)
      (λ k l. joined_same (λ (i : ℕ). px i (a + k)) (λ (i : ℕ). qx i (a + k)) 0 0 w (λ i m. rw zero-add (h i (a + k) m (omega arith) (omega arith))))

  -- two rows of equal pixels
  pub rows_alike : (w j k : ℕ) → ((i : ℕ) → i < w → px i j ≡ px i k) → row px w j ≡ row px w k
  unfolding row
  rows_alike w j k h = joined_same (λ (i : ℕ). px i j) (λ (i : ℕ). px i k) 0 0 w (λ i l. rw zero-add (h i l))

  -- a row of one pixel, over and over
  pub row-copies : (w j : ℕ) (s : List A) → ((i : ℕ) → i < w → px i j ≡ s) → row px w j ≡ copies w s
  unfolding row
  row-copies w j s h = joined_same (λ (i : ℕ). px i j) (λ (i : ℕ). s) 0 0 w (λ i l. rw zero-add (h i l))

  -- a strip of one row, over and over
  pub strip-copies : (w a b : ℕ) (s : List A) → ((j : ℕ) → a ≤ j → j < b → row px w j ≡ s) → strip px w a b ≡ copies (b - a) s
  unfolding strip
  strip-copies w a b s h =
      joined_same (row px w) (λ (k : ℕ). s) a 0 (b - a) (λ k l. h (a + k) (omega arith) (omega arith))

  module _ (four : (i j : ℕ) → length (px i j) ≡ 4) where
    pub row-length : (w j : ℕ) → length (row px w j) ≡ 4 * w
    unfolding row
    row-length w j = joined_length (λ (i : ℕ). px i j) 4 (λ (i : ℕ). four i j) 0 w

    pub part_length : (i n j : ℕ) → length (part px i n j) ≡ 4 * n
    unfolding part
    part_length i n j = joined_length (λ (k : ℕ). px k j) 4 (λ (k : ℕ). four k j) i n

    pub strip-length : (w a b : ℕ) → length (strip px w a b) ≡ 4 * w * (b - a)
    unfolding strip
    strip-length w a b = joined_length (row px w) (4 * w) (row-length w) a (b - a)

    pub picture-length : (w h : ℕ) → length (picture px w h) ≡ 4 * w * h
    picture-length w h = rw sub-zero at (strip-length w 0 h)

    -- byte c of pixel (i, a + j) stands at 4 (j w + i) + c of the strip of rows a up to b
    pub strip-at : (w a b i j c : ℕ) (d : A) → i < w → j < b - a → c < 4 → get_or (strip px w a b) (4 * (j * w + i) + c) d ≡ get_or (px i (a + j)) c d
    unfolding strip row
    strip-at w a b i j c d hi hj hc =
        let e : 4 * (j * w + i) + c ≡ 4 * w * j + (4 * i + c) = omega arith in
        let r = joined_at (row px w) (4 * w) (row-length w) a (b - a) j (4 * i + c) d hj (omega arith) in
        let p = joined_at (λ (i : ℕ). px i (a + j)) 4 (λ (i : ℕ). four i (a + j)) 0 w i c d hi hc in
        rw e r ∙ rw zero-add at p

    -- byte c of pixel (i, j) stands at 4 (j w + i) + c of the picture
    pub picture-at : (w h i j c : ℕ) (d : A) → i < w → j < h → c < 4 → get_or (picture px w h) (4 * (j * w + i) + c) d ≡ get_or (px i j) c d
    picture-at w h i j c d hi hj hc = rw zero-add at (strip-at w 0 h i j c d hi (omega arith) hc)

-- ---- the buffer after a call
pub padded-length : (n : ℕ) (s : List ℕ) → length s ≤ n → length (padded n s) ≡ n
padded-length n s h = rw (length-append, length-replicate) (omega arith)

pub buffer-length : (r : ℕ) (pic : List ℕ) (n : ℕ) → (r ≡ 0 → length pic ≤ n) → length (buffer r pic n) ≡ n
buffer-length zero pic n h = padded-length n pic (h refl)
buffer-length (suc r) pic n h = length-replicate n 0

-- zeros after a list change nothing
pub padded-at : (n : ℕ) (s : List ℕ) (k : ℕ) → ◌≡◌ {A = ℕ} (get_or (padded n s) k 0) (get_or s k 0)
padded-at n s k = go s (n - length s) k
  where
    zeros : (m k : ℕ) → ◌≡◌ {A = ℕ} (get_or (replicate m 0) k 0) 0
    zeros zero k = refl
    zeros (suc m) zero = refl
    zeros (suc m) (suc k) = zeros m k

    go : (s : List ℕ) (m k : ℕ) → ◌≡◌ {A = ℕ} (get_or (s ++ replicate m 0) k 0) (get_or s k 0)
    go [] m k = zeros m k
    go (a ∷ s) m zero = refl
    go (a ∷ s) m (suc k) = go s m k

-- byte c of pixel (i, j) stands at 4 ((j − a) w + i) + c of the buffer after a call for rows a up to b that answers 0
pub buffer-at : (px : ℕ → ℕ → List ℕ) → ((i j : ℕ) → length (px i j) ≡ 4) → (w a b r n i j c : ℕ) → r ≡ 0 → i < w → a ≤ j → j < b → c < 4
    → get_or (buffer r (strip px w a b) n) (4 * ((j - a) * w + i) + c) 0 ≡ get_or (px i j) c 0
buffer-at px four w a b r n i j c e hi ha hb hc =
    let s : a + (j - a) ≡ j = omega arith in
    rw e (padded-at n (strip px w a b) (4 * ((j - a) * w + i) + c) ∙ rw s at (strip-at px four w a b i (j - a) c 0 hi (omega arith) hc))

-- ---- room: rows a up to j of n bytes each, and one more
pub times_more : (n a j : ℕ) → a ≤ j → n * (j + 1 - a) ≡ n * (j - a) + n
times_more n a j h =
    let e : j + 1 - a ≡ suc (j - a) = omega arith in
    rw (e, mul-suc)

pub times-room : (n a b j : ℕ) → a ≤ j → j < b → n * (j - a) + n ≤ n * (b - a)
times-room n a b j h k =
    let m : n * (j + 1 - a) ≤ n * (b - a) = mul-le-mul_left n (omega arith) in
    omega (arith, times_more n a j h)
