-- Every color of the text is made of bytes.
-- Assumes nothing.
use mathlib.Core.Path.{◌≡◌, refl}
use mathlib.Core.Bool.{Bool, true, false, ◌&&◌, and-eq-true_iff}
use mathlib.Core.List.{List, [], ◌∷◌}
use Prim.Native.Nat.{ℕ, ◌+◌, ◌*◌, ◌≤◌}
use native.Mathlib.Omega.{arith}
use lib.Dec.{leb, eqb}
use lib.ListN.{length, get_or}
use borrow.Author.Tests.{leb-true}
use Rattle.text.specs.Text.{is, peek_of, rest_of, run, past, Read, got, refused, ◌>>=◌, keyword_of}
use Rattle.text.proofs.Laws.{Gets, gets-or, gets-cond}
use Rattle.gradient.specs.Lists.{all}
use Rattle.gradient.specs.Bytes.{ColorBytes}
use Rattle.tokens.specs.Color.{is_hex, short, long, channel_of, of_channels, hex_color, hex_of, Row, color_names, row_of, named_of, color_of}
use Rattle.tokens.proofs.Hex.{hex-small}

-- ---- hex digits are below 16
channel-byte : (t : Bool) (l : List ℕ) (i : ℕ) → channel_of t l i ≤ 255
channel-byte true l i = omega (arith, hex-small (get_or l i 0) refl)
channel-byte false l i = omega (arith, hex-small (get_or l (2 * i) 0) refl, hex-small (get_or l (2 * i + 1) 0) refl)

channels-bytes : (t : Bool) (l : List ℕ) (alpha : ℕ) → alpha ≤ 255 → ColorBytes (of_channels (channel_of t l) alpha)
channels-bytes t l alpha h = record { red = channel-byte t l 0; green = channel-byte t l 1; blue = channel-byte t l 2; alpha = h }

hex-bytes : (n : ℕ) (l rest : List ℕ) → Gets ColorBytes (hex_color n l rest)
unfolding hex_color
hex-bytes n l rest =
    gets-cond ColorBytes (eqb n 3) _ _ (channels-bytes true l 255 (omega arith))
    (gets-cond ColorBytes (eqb n 4) _ _ (channels-bytes true l (short l 3) (channel-byte true l 3))
    (gets-cond ColorBytes (eqb n 6) _ _ (channels-bytes false l 255 (omega arith))
    (gets-cond ColorBytes (eqb n 8) _ _ (channels-bytes false l (long l 3) (channel-byte false l 3))
    tt)))

-- ---- the names: a test of a row, which computes over the whole table
in_bytes : Row → Bool
in_bytes w = leb w.color.red 255 && (leb w.color.green 255 && (leb w.color.blue 255 && leb w.color.alpha 255))

in_bytes_lem : (w : Row) → in_bytes w ≡ true → ColorBytes w.color
unfolding in_bytes
in_bytes_lem w e =
    let r = (and-eq-true_iff _ _).0 e in
    let g = (and-eq-true_iff _ _).0 r.1 in
    let b = (and-eq-true_iff _ _).0 g.1 in
    record { red = leb-true _ _ r.0; green = leb-true _ _ g.0; blue = leb-true _ _ b.0; alpha = leb-true _ _ b.1 }

table-bytes : all in_bytes color_names ≡ true
unfolding color_names in_bytes
table-bytes = refl

row-bytes : (w : Row) (r : Read (Unit {0})) → ColorBytes w.color → Gets ColorBytes (r >>= λ _ k. got w.color k)
row-bytes w (got u k) b = b
row-bytes w refused b = tt

named-bytes : (rows : List Row) → all in_bytes rows ≡ true → (l : List ℕ) → Gets ColorBytes (named_of rows l)
unfolding named_of row_of
named-bytes [] e l = tt
named-bytes (w ∷ rows) e l =
    let k = (and-eq-true_iff (in_bytes w) (all in_bytes rows)).0 e in
    gets-or ColorBytes (row_of w l) (named_of rows l) (row-bytes w (keyword_of w.name l) (in_bytes_lem w k.0)) (named-bytes rows k.1 l)

-- ---- a color
pub color-bytes : (l : List ℕ) → Gets ColorBytes (color_of l)
unfolding color_of hex_of
color-bytes l =
    gets-cond ColorBytes (is "#" (peek_of l)) (hex_of (rest_of l)) (named_of color_names l)
    (hex-bytes (length (run is_hex (rest_of l))) (rest_of l) (past is_hex (rest_of l))) (named-bytes color_names table-bytes l)
