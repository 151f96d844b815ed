-- The stops of a gradient that reading gives: 16 places, and colors that are made of bytes.
-- Assumes nothing.
use mathlib.Core.Path.{◌≡◌, refl}
use mathlib.Core.Bool.{Bool, true, false, cond}
use mathlib.Core.List.{List}
use Prim.Native.Nat.{ℕ}
use native.Mathlib.Omega.{arith}
use lib.Dec.{eqb}
use lib.ListN.{length, length-append, length-take, length-replicate}
use Rattle.text.specs.Text.{Read, got, refused, is_space, past}
use Rattle.text.proofs.Laws.{Gets}
use Rattle.tokens.specs.Number.{exact}
use Rattle.gradient.specs.declared.Stop.{Stop}
use Rattle.gradient.specs.Blank.{blank_gradient}
use Rattle.gradient.specs.Bytes.{StopBytes}
use Rattle.stoplist.specs.View.{places}
use Rattle.stoplist.proofs.Bytes.{bytes-blank, two-stops-bytes, places-bytes}
use Rattle.reader.specs.Written.{Written}
use Rattle.reader.specs.Text.{gradient_of}
use Rattle.reader.specs.Reading.{gradient_in, read_reply, read_of}
use Rattle.reader.proofs.Carried.{carried}

pub read-bytes : (text : List ℕ) → StopBytes (read_of text).gradient.stops
unfolding read_of
read-bytes text = answered-bytes (eqb (read_reply text) 0) (gradient_of exact text) (carried StopBytes exact (two-stops-bytes exact) (past is_space text))
  where
    answered-bytes : (t : Bool) (r : Read Written) → Gets (λ w. StopBytes w.stops) r → StopBytes (cond t (gradient_in r) blank_gradient).stops
    answered-bytes true (got w l) b = places-bytes w.stops b
    answered-bytes true refused b = bytes-blank 16
    answered-bytes false r b = bytes-blank 16

places-full : (ss : List Stop) → length (places ss) ≡ 16
places-full ss = simp (length-append, length-take, length-replicate) (omega arith)

pub read-full : (text : List ℕ) → (read_of text).reply ≡ 0 → length (read_of text).gradient.stops ≡ 16
unfolding read_of
read-full text e = rw e (go (gradient_of exact text))
  where
    go : (r : Read Written) → length (gradient_in r).stops ≡ 16
    go (got w l) = places-full w.stops
    go refused = refl
