-- The layout is written place by place, after the count.
-- Assumes nothing.
use mathlib.Core.Path.{◌≡◌, refl, sym, ap, ◌∙◌}
use mathlib.Core.List.{List}
use Prim.Native.Nat.{ℕ, ◌+◌, ◌-◌, ◌*◌, ◌≤◌, ◌<◌}
use native.Mathlib.Omega.{arith}
use lib.ListN.{length, get_or, take, replicate}
use lib.Seq.{length-take-le}
use Rattle.picture.specs.Picture.{padded, patched}
use Rattle.picture.proofs.Patches.{patch-step, painted}
use Rattle.words.specs.Word.{each}
use Rattle.words.proofs.Each.{each-length, each_more}
use Rattle.stops.specs.Blank.{blank_placed}
use Rattle.stops.specs.declared.PlacedStop.{PlacedStop}
use Rattle.stops.specs.declared.PlacedStops.{PlacedStops}
use Rattle.stopslayout.specs.Words.{count_bytes, stop_bytes, placed_layout_of}
use Rattle.stopslayout.proofs.Exact.{layout-length}

-- one place more
pub place-step : (stops : List PlacedStop) (d b b' : List ℕ) (i : ℕ) → i < length stops → 4 + 8 * length stops ≤ length d
    → b ≡ patched d 4 (each stop_bytes (take i stops)) → b' ≡ patched b (4 + 8 * i) (stop_bytes (get_or stops i blank_placed))
    → b' ≡ patched d 4 (each stop_bytes (take (i + 1) stops))
place-step stops d b b' i h room p q =
    let n : length (each stop_bytes (take i stops)) ≡ 8 * i =
    each-length stop_bytes 8 (λ s. refl) (take i stops) ∙ ap (λ (k : ℕ). 8 * k) (length-take-le i stops (omega arith)) in
    rw (each_more stop_bytes stops i blank_placed h)
    (patch-step d (each stop_bytes (take i stops)) (stop_bytes (get_or stops i blank_placed)) b b' 4 (4 + 8 * i) (omega arith) (omega arith) p q)

-- all places, and zeros after them
pub all-written : (p : PlacedStops) (d b b' : List ℕ) → length p.stops ≡ 16 → 132 ≤ length d → b ≡ patched d 0 (count_bytes p.count)
    → b' ≡ patched b 4 (each stop_bytes p.stops) → patched b' 132 (replicate (length b' - 132) 0) ≡ padded (length d) (placed_layout_of p)
unfolding placed_layout_of
all-written p d b b' full room q r =
    painted d (placed_layout_of p) b' 132 (sym (layout-length p full)) room
    (patch-step d (count_bytes p.count) (each stop_bytes p.stops) b b' 0 4 refl (omega (arith, each-length stop_bytes 8 (λ s. refl) p.stops)) q r)
