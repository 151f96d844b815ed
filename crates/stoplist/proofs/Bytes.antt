-- The colors of stops in the text are made of bytes, and so are those of the 16 places that hold the stops.
-- Assumes nothing.
use mathlib.Core.Bool.{cond}
use mathlib.Core.List.{List, [], ◌∷◌, ◌++◌}
use Prim.Native.Nat.{ℕ, zero, suc, ◌-◌}
use lib.Dec.{ltb}
use lib.IntN.{ℤ}
use lib.ListN.{length, take, replicate}
use Rattle.text.specs.Text.{Read, got, refused, ◌>>=◌, ◌or_read◌, is_nil, past, is_space, after_gap, whole_of}
use Rattle.text.proofs.Laws.{Gets, gets-map, gets-bind, gets-cond}
use Rattle.tokens.specs.Color.{color_of}
use Rattle.tokens.proofs.Bytes.{color-bytes}
use Rattle.gradient.specs.declared.Color.{Color}
use Rattle.gradient.specs.declared.Position.{Position}
use Rattle.gradient.specs.declared.Position.TheVariants as P
use Rattle.gradient.specs.declared.Stop.{Stop}
use Rattle.gradient.specs.Blank.{blank_stop}
use Rattle.gradient.proofs.Laws.{blank-bytes}
use Rattle.gradient.specs.Bytes.{ColorBytes, StopBytes}
use Rattle.stoplist.specs.Stops.{stop, stop_position_of, stop_of, stops_of, two_stops_of}
use Rattle.stoplist.specs.View.{places}

-- ---- lists of stops
bytes-nil : StopBytes []
bytes-nil i = blank-bytes

bytes-cons : (s : Stop) (ss : List Stop) → ColorBytes s.color → StopBytes ss → StopBytes (s ∷ ss)
bytes-cons s ss b f zero = b
bytes-cons s ss b f (suc i) = f i

pub bytes-blank : (m : ℕ) → StopBytes (replicate m blank_stop)
bytes-blank zero = bytes-nil
bytes-blank (suc m) = bytes-cons blank_stop (replicate m blank_stop) blank-bytes (bytes-blank m)

-- the first n, with m blank places after them
bytes-padded : (n m : ℕ) (ss : List Stop) → StopBytes ss → StopBytes (take n ss ++ replicate m blank_stop)
bytes-padded zero m ss f = bytes-blank m
bytes-padded (suc n) m [] f = bytes-blank m
bytes-padded (suc n) m (s ∷ ss) f = bytes-cons s (take n ss ++ replicate m blank_stop) (f 0) (bytes-padded n m ss (λ j. f (suc j)))

pub places-bytes : (ss : List Stop) → StopBytes ss → StopBytes (places ss)
places-bytes ss = bytes-padded 16 (16 - length ss) ss

-- ---- what is read of the text
abbrev OneBytes : Stop → Type 0
OneBytes s = ColorBytes s.color

stop-bytes : (keep : ℤ → ℤ) (l : List ℕ) → Gets OneBytes (stop_of keep l)
unfolding stop_of
stop-bytes keep l = gets-bind ColorBytes OneBytes _ (λ v k b. by-position v k b (after_gap (stop_position_of keep) k)) (color_of l) (color-bytes l)
  where
    by-position : (v : Color) (k : List ℕ) → ColorBytes v → (r : Read Position) → Gets OneBytes ((r >>= λ p e. got (stop v p) e) or_read got (stop v P.Auto) k)
    by-position v k b (got p e) = b
    by-position v k b refused = b

whole-bytes : (keep : ℤ → ℤ) (l : List ℕ) → Gets OneBytes (whole_of (stop_of keep) l)
unfolding whole_of
whole-bytes keep l =
    gets-bind OneBytes OneBytes (λ s k. cond (is_nil (past is_space k)) (got s []) refused) (λ s k b. gets-cond OneBytes (is_nil (past is_space k)) (got s []) refused b tt)
    (stop_of keep (past is_space l)) (stop-bytes keep (past is_space l))

stops-bytes : (keep : ℤ → ℤ) (items : List (List ℕ)) → Gets StopBytes (stops_of keep items)
unfolding stops_of
stops-bytes keep [] = bytes-nil
stops-bytes keep (i ∷ rest) =
    gets-bind OneBytes StopBytes _ (λ s _ b. gets-map StopBytes StopBytes (λ ss. s ∷ ss) (λ ss. bytes-cons s ss b) (stops_of keep rest) (stops-bytes keep rest))
    (whole_of (stop_of keep) i) (whole-bytes keep i)

pub two-stops-bytes : (keep : ℤ → ℤ) (items : List (List ℕ)) → Gets StopBytes (two_stops_of keep items)
unfolding two_stops_of
two-stops-bytes keep items =
    gets-bind StopBytes StopBytes _ (λ ss _ b. gets-cond StopBytes (ltb (length ss) 2) refused (got ss []) tt b) (stops_of keep items) (stops-bytes keep items)
