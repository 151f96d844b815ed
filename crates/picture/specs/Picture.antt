-- Pictures as lists of elements, and what a call leaves in a lent buffer. Document 01: "Bytes go red, green, blue, alpha, row by row from the
-- top", and 0 is answered with "picture, then zeros", every other reply with "all zeros". The picture's laws are in proofs/Rows.antt, those of
-- a write in proofs/Patches.antt.
-- Assumes nothing.
use Rattle.std.specs.Prelude.{List, [], ◌++◌, ℕ, zero, suc, ◌+◌, ◌-◌, length, take, drop, replicate}

-- f a, f (a + 1), .., n lists in all, joined
unfoldable pub joined : {A : Type 0} → (ℕ → List A) → ℕ → ℕ → List A
joined f a zero = []
joined f a (suc n) = f a ++ joined f (suc a) n

-- s, n times
abbrev pub copies : {A : Type 0} → ℕ → List A → List A
copies n s = joined (λ (k : ℕ). s) 0 n

-- row j of a picture w pixels wide whose pixel (i, j) is px i j
unfoldable pub row : {A : Type 0} → (ℕ → ℕ → List A) → ℕ → ℕ → List A
row px w j = joined (λ (i : ℕ). px i j) 0 w

-- n pixels of row j, from pixel i on
unfoldable pub part : {A : Type 0} → (ℕ → ℕ → List A) → ℕ → ℕ → ℕ → List A
part px i n j = joined (λ (k : ℕ). px k j) i n

-- rows a up to, not including, b
unfoldable pub strip : {A : Type 0} → (ℕ → ℕ → List A) → ℕ → ℕ → ℕ → List A
strip px w a b = joined (row px w) a (b - a)

-- all h rows
abbrev pub picture : {A : Type 0} → (ℕ → ℕ → List A) → ℕ → ℕ → List A
picture px w h = strip px w 0 h

-- s, then zeros up to n bytes
abbrev pub padded : ℕ → List ℕ → List ℕ
padded n s = s ++ replicate (n - length s) 0

-- a buffer of n bytes after a call that answers r: on 0 the picture, then zeros; else all zeros
abbrev pub buffer : ℕ → List ℕ → ℕ → List ℕ
buffer zero pic n = padded n pic
buffer (suc r) pic n = replicate n 0

-- d with s in place of what stands from `at` on: what a write changes, and all that it changes
abbrev pub patched : {A : Type 0} → List A → ℕ → List A → List A
patched d at s = take at d ++ s ++ drop (at + length s) d
