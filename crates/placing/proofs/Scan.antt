-- Loops that go through a list from the front: what is done, followed by what the definition makes of the rest, stays the same.
-- Assumes nothing.
use mathlib.Core.Path.{◌≡◌, ap}
use mathlib.Core.List.{List, [], ◌∷◌, ◌++◌, map, map-append}
use Prim.Native.Nat.{ℕ, ◌+◌, ◌<◌}
use native.Mathlib.Numerals.{add-one}
use lib.ListN.{length, take, drop, get_or, set}
use lib.Seq.{drop-cons, take-suc-set, append_snoc}

-- entry i is replaced by v; `rest` is what the definition makes of the rest before, and `rest'` after
pub grown {ℓ} : {A B : Type ℓ} (f : A → B) (us : List A) (i : ℕ) (v : A) (rest rest' : List B) → i < length us → f v ∷ rest' ≡ rest
    → map f (take (i + 1) (set us i v)) ++ rest' ≡ map f (take i us) ++ rest
grown f us i v rest rest' h e =
    rw (add-one i, take-suc-set us i v h, map-append f (take i us) (v ∷ []), append_snoc (map f (take i us)) (f v) rest') (ap (λ r. map f (take i us) ++ r) e)

-- the entry that a loop looks at
pub map_at {ℓ} : {A B : Type ℓ} (g : A → B) (ps : List A) (i : ℕ) (d : A) → i < length ps → map g (drop i ps) ≡ g (get_or ps i d) ∷ map g (drop (i + 1) ps)
map_at g ps i d h = rw (add-one i) (ap (map g) (drop-cons ps i d h))
