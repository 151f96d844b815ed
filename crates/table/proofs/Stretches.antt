-- Stretches: where they come from, and the colors that they give.
-- Assumes nothing.
use mathlib.Core.Path.{◌≡◌, refl, sym, ap, ◌∙◌}
use mathlib.Core.List.{List, [], ◌∷◌}
use Prim.Native.Nat.{ℕ, zero, suc, ◌+◌, ◌-◌, ◌*◌, ◌≤◌, ◌<◌}
use native.Mathlib.Nat.{zero-add}
use native.Mathlib.Omega.{arith}
use lib.ListN.{length, get_or}
use Rattle.numbers.specs.Fraction.{◌⁄◌, nearest}
use Rattle.numbers.specs.Biased.{twice_bias}
use Rattle.color.specs.Stop.{Channel, red, green, blue, alpha}
use Rattle.color.specs.Byte.{rgba}
use Rattle.color.specs.Lent.{Lent, Rising, values_at, last_up_to, mix}
use Rattle.color.specs.declared.Rgba.{Rgba}
use Rattle.color.proofs.Mix.{mix-same}
use Rattle.color.proofs.Lent.{color-first, color-last}
use Rattle.walk.specs.Walk.{Further, Fits}
use Rattle.walk.specs.Channels.{channel_of, Going, Staying, mix_of}
use Rattle.walk.specs.declared.Walk.{Walk}
use Rattle.walk.specs.declared.Channels.{Channels}
use Rattle.walk.proofs.Four.{rgba-is}
use Rattle.table.specs.Table.{packed, farthest, entry_of, entry_at, walked_at, Reached, Splits, Ends, Run, Flat, Stretched, Near, Leaps}
use Rattle.table.specs.declared.Stretch.{Stretch}
use Rattle.table.proofs.Packing.{entry-is}
use Rattle.table.proofs.Runs.{rising_le, splits_last, splits-clear, spans, walked-entry, flat-first, flat-last}
use Rattle.table.proofs.Walked.{reached-first, reached-fits, reached-further, reached-color}

-- a stretch of no locations
pub stretched-none : (color : ℕ → ℕ) (t : Stretch) → (t.first ≡ 0) × (t.count ≡ 0) → Stretched color t
stretched-none color t e = record {
  values = [];
  place = 0;
  gap = 0;
  start = 0;
  range = omega (arith, e.0);
  spans = record { few = omega (arith, e.1); within = omega (arith, e.1) };
  reached = λ h. absurd (omega (arith, e.1));
  colors = λ k h. absurd (omega (arith, e.1));
}

pub near_none : (ps : List ℕ) (at low : ℕ) (t : Stretch) → (t.first ≡ 0) × (t.count ≡ 0) → Near ps at low t
near_none ps at low t e = record { not-far = omega (arith, e.0); from_low = λ h. absurd (omega (arith, e.1)); inside = λ h. absurd (omega (arith, e.1)) }

-- the locations from `first` up to `end`, both biased, with k positions at or below each of them
module _ (ps : List ℕ) (rising : Rising ps) (k first end : ℕ) (near : first ≤ twice_bias) (s : Splits ps first k)
    (e : Ends ps k (first + 262143) end) where
  pub some : first < end
  some = e.past first (omega arith) s.above

  same_first : first + 0 * 1 ≡ first
  same_first = omega arith

  same_end : first + (end - first - 1) * 1 + 1 ≡ end
  same_end = omega (arith, some)

  run : Run ps first 1 0 (end - first) (end - first)
  run = record {
    some = omega (arith, some);
    within = omega arith;
    few = omega (arith, e.within);
    range = omega (arith, e.within);
    clear = rw (same_first, same_end) (splits-clear ps first k rising s (first + 262143) end e);
  }

  last : k ≡ last_up_to ps (first + 0 * 1)
  last = rw same_first (splits_last ps first k rising s)

-- positions up to one that is at or below `first` are so, too
all-below : (ps : List ℕ) → Rising ps → (i first : ℕ) → i < length ps → get_or ps i 0 ≤ first → (j : ℕ) → j < i + 1 → get_or ps j 0 ≤ first
all-below ps r i first z h j l =
    let q : j + (i - j) ≡ i = omega arith in
    omega (arith, rw q at (rising_le ps r j (i - j) (omega arith)))

unit : (first k : ℕ) → first + k * 1 ≡ first + k
unit first k = omega arith

-- between stop i and the next
module _ (ps vs : List ℕ) (h : Lent ps vs) (i at first end : ℕ) (z : i + 1 < length ps) (s : Splits ps at (i + 1)) (near : at ≤ twice_bias)
    (above : get_or ps i 0 ≤ first) (low : first ≤ at) (e : Ends ps (i + 1) (first + 262143) end) where
  front : Splits ps first (i + 1)
  front = record { within = s.within; below = all-below ps h.rising i first (omega arith) above; above = λ l. omega (arith, s.above l) }

  pub some-between : first < end
  some-between = some ps h.rising (i + 1) first end (omega arith) front e

  pub stretched-between : (c : Channels Walk) → Going vs i (get_or ps (i + 1) 0 - get_or ps i 0) 1 (first - get_or ps i 0) 262144 c
      → Stretched (entry_of ps vs) (record { first = first; count = end - first; walks = c })
  stretched-between c g =
      let n : first ≤ twice_bias = omega arith in
      let r = run ps h.rising (i + 1) first end n front e in
      let l = last ps h.rising (i + 1) first end n front e in
      let x : first + 0 * 1 - get_or ps i 0 ≡ first - get_or ps i 0 = ap (λ (k : ℕ). k - get_or ps i 0) (same_first ps h.rising (i + 1) first end n front e) in
      record {
        values = vs;
        place = i;
        gap = get_or ps (i + 1) 0 - get_or ps i 0;
        start = first - get_or ps i 0;
        range = omega arith;
        spans = rw x at (spans ps vs h first 1 0 (end - first) (end - first) r i l z);
        reached = λ _. reached-first vs i (get_or ps (i + 1) 0 - get_or ps i 0) 1 (first - get_or ps i 0) 0 c g;
        colors = λ k m. (rw x at (walked-entry ps vs h first 1 0 (end - first) (end - first) r i l z k (omega arith) m)) ∙ ap (entry_of ps vs) (unit first k);
      }

  pub near-between : (b : ℕ) → b ≤ first → (c : Channels Walk) → Near ps at b (record { first = first; count = end - first; walks = c })
  near-between b m c =
      let e₁ : i + 1 + (length ps - 1 - (i + 1)) ≡ length ps - 1 = omega arith in
      record {
        not-far = omega arith;
        from_low = λ l. m;
        inside = λ l p q. (
          omega (arith, rw zero-add at (rising_le ps h.rising 0 i (omega arith))),
          omega (arith, e.before z, some-between, rw e₁ at (rising_le ps h.rising (i + 1) (length ps - 1 - (i + 1)) (omega arith))),
        );
      }

-- ---- outside the stops
pub flat-before : (ps : List ℕ) (at low : ℕ) → low ≤ at → at ≤ twice_bias → Splits ps at 0 → Flat ps 0 low 0
flat-before ps at low h near p = record {
  near = omega arith;
  splits = record { within = omega arith; below = λ i l. absurd (omega arith); above = λ l. omega (arith, p.above l) };
  outside = λ l. absurd (omega arith);
  stop = refl;
}

pub flat_after : (ps : List ℕ) → Rising ps → (i at first : ℕ) → at ≤ twice_bias → i + 1 ≡ length ps → get_or ps i 0 ≤ first → first ≤ at → Flat ps i first (i + 1)
flat_after ps r i at first near all above low = record {
  near = omega arith;
  splits = record { within = omega arith; below = all-below ps r i first (omega arith) above; above = λ l. absurd (omega arith) };
  outside = λ l. all;
  stop = omega arith;
}

-- where `at` is outside the stops
pub near-outside : (ps : List ℕ) (at low : ℕ) (t : Stretch) → low ≤ t.first → t.first ≤ twice_bias → (get_or ps 0 0 ≤ at → at < get_or ps (length ps - 1) 0 → ⊥)
    → Near ps at low t
near-outside ps at low t h far out = record { not-far = far; from_low = λ _. h; inside = λ _ p q. absurd (out p q) }

-- the values of stop i, twice
abbrev twice : List ℕ → ℕ → List ℕ
twice vs i =
    values_at vs i red ∷ values_at vs i green ∷ values_at vs i blue ∷ values_at vs i alpha
    ∷ values_at vs i red ∷ values_at vs i green ∷ values_at vs i blue ∷ values_at vs i alpha ∷ []

staying : (vs : List ℕ) (i : ℕ) (w : Channels Walk) → Staying vs i w → Going (twice vs i) 0 262144 1 0 262144 w
staying vs i w h red = h red
staying vs i w h green = h green
staying vs i w h blue = h blue
staying vs i w h alpha = h alpha

-- they stay at the color of the stop
stay-color : (vs : List ℕ) (i n : ℕ) → n < 262144 → walked_at (twice vs i) 0 262144 1 0 0 n ≡ packed (rgba (λ c. nearest (values_at vs i c ⁄ 255)))
unfolding walked_at
stay-color vs i n l =
    let x : 0 + (n - 0) * 1 ≡ n = omega arith in
    rw x (ap packed (sym (rgba-is (λ c. nearest (mix (values_at vs i c) (values_at vs i c) n (262144 - n))) (same red) (same green) (same blue) (same alpha))))
  where
    same : (c : Channel) → nearest (values_at vs i c ⁄ 255) ≡ nearest (mix (values_at vs i c) (values_at vs i c) n (262144 - n))
    same c = sym (mix-same n (262144 - n) (omega arith) (values_at vs i c))

module _ (ps vs : List ℕ) (h : Lent ps vs) (i first k end : ℕ) (f : Flat ps i first k) (e : Ends ps k (first + 262143) end) where
  flat-run : Run ps first 1 0 (end - first) (end - first)
  flat-run = run ps h.rising k first end f.near f.splits e

  flat-place : k ≡ last_up_to ps (first + 0 * 1)
  flat-place = last ps h.rising k first end f.near f.splits e

  -- each location has the color of stop i
  flat-entry : (n : ℕ) → n < end - first → packed (rgba (λ c. nearest (values_at vs i c ⁄ 255))) ≡ entry_at ps vs first 1 n
  flat-entry n l = go k refl
    where
      go : (m : ℕ) → m ≡ k → packed (rgba (λ c. nearest (values_at vs i c ⁄ 255))) ≡ entry_at ps vs first 1 n
      go zero z =
          let q : i ≡ 0 = omega (arith, f.stop) in
          rw q (entry-is ps vs h _ (first + 0 * 1) (color-first ps vs h _ (z ∙ flat-place)))
          ∙ flat-first ps vs h first 1 0 (end - first) (end - first) flat-run (z ∙ flat-place) n (omega arith) l
      go (suc m) z =
          let q : i ≡ m = omega (arith, f.stop) in
          let all : suc m ≡ length ps = z ∙ f.outside (omega arith) in
          rw q (entry-is ps vs h _ (first + 0 * 1) (color-last ps vs h _ m (z ∙ flat-place) all))
          ∙ flat-last ps vs h first 1 0 (end - first) (end - first) flat-run m (z ∙ flat-place) all n (omega arith) l

  pub stretched-flat : (c : Channels Walk) → Staying vs i c → Stretched (entry_of ps vs) (record { first = first; count = end - first; walks = c })
  stretched-flat c g = record {
    values = twice vs i;
    place = 0;
    gap = 262144;
    start = 0;
    range = omega (arith, f.near);
    spans = record { few = omega (arith, e.within); within = omega (arith, e.within) };
    reached = λ _. reached-first (twice vs i) 0 262144 1 0 0 c (staying vs i c g);
    colors = λ n l. stay-color vs i n (omega (arith, e.within)) ∙ flat-entry n l ∙ ap (entry_of ps vs) (unit first n);
  }

-- the same stretch elsewhere
pub stretched-moved : (f color : ℕ → ℕ) (t r : Stretch) → r.count ≡ t.count → r.walks ≡ t.walks → Stretched f t → r.first ≤ farthest
    → ((k : ℕ) → k < t.count → f (t.first + k) ≡ color (r.first + k)) → Stretched color r
stretched-moved f color t r n w h near e = record {
  values = h.values;
  place = h.place;
  gap = h.gap;
  start = h.start;
  range = near;
  spans = rw n h.spans;
  reached = λ l. rw w (h.reached (omega arith));
  colors = λ k l. h.colors k (omega arith) ∙ e k (omega arith);
}

-- ---- the location n units from a stretch's first
module _ (color : ℕ → ℕ) (t : Stretch) (h : Stretched color t) (n : ℕ) (hi : n < t.count) where
  there : 0 + n < t.count
  there = omega arith

  begun : Reached h.values h.place h.gap 1 h.start 0 0 t.walks
  begun = h.reached (omega arith)

  leap-fits : (c : Channel) → Fits n (channel_of t.walks c)
  leap-fits = reached-fits h.values h.place h.gap 1 h.start 0 t.count 0 t.walks (omega arith) h.spans begun n there

  pub stretched-color : (v : Channels Walk) → ((c : Channel) → Further n (channel_of t.walks c) (channel_of v c)) → (p : Rgba)
      → ((us : List ℕ) (j g s x left : ℕ) → Going us j g s x (left + 1) v → p ≡ mix_of us j x (g - x)) → packed p ≡ color (t.first + n)
  stretched-color v e p f =
      let r = reached-further h.values h.place h.gap 1 h.start 0 t.count 0 t.walks (omega arith) h.spans begun n there v e in
      let q : 0 + n ≡ n = omega arith in
      reached-color h.values h.place h.gap 1 h.start 0 t.count (0 + n) v (omega arith) h.spans r there p f
      ∙ h.colors (0 + n) there ∙ ap (λ (k : ℕ). color (t.first + k)) q

pub stretched-leaps : (color : ℕ → ℕ) (t : Stretch) → Stretched color t → Leaps t
stretched-leaps color t h = record { few = omega (arith, h.spans.few); fits = λ n l. leap-fits color t h n l }
