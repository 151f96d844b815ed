-- Ramps whose heads are alike.
-- Assumes nothing.
use mathlib.Core.Path.{◌≡◌, refl, sym, ap, ap₂, ◌∙◌}
use mathlib.Core.Bool.{Bool, true, false, false≢true}
use mathlib.Core.List.{List, [], ◌∷◌, ◌++◌, map, append-nil}
use borrow.Rule.Slice.PartMut.{put_mid, post_of, take_put}
use Prim.Native.Nat.{ℕ, zero, suc, ◌+◌, ◌-◌, ◌*◌, ◌/◌, ◌%◌, ◌≤◌, ◌<◌}
use native.Mathlib.Nat.{mul-one, div-add-mod', mul-mod_right}
use native.Mathlib.Omega.{arith}
use lib.ListN.{length, get_or, take, drop, set, length-drop, length-set, length-append, drop_of_length-le}
use lib.Seq.{take-take, get_or-take, get_or-drop, get_or-set_same, get_or-set_other, drop-set-lt, drop_at, length-take-le}
use lib.IntN.{ℤ, pos}
use Rattle.numbers.specs.Biased.{bias, twice_bias, unbiased}
use Rattle.numbers.specs.Fraction.{◌⁄◌, nearest}
use Rattle.numbers.proofs.Integers.{biased-count}
use Rattle.gradient.specs.Lists.{all}
use Rattle.stops.specs.Bytes.{AllBytes}
use Rattle.stops.specs.Check.{placed_of, place_in, places_in}
use Rattle.stops.specs.declared.PlacedStop.{PlacedStop}
use Rattle.stops.specs.declared.PlacedStops.{PlacedStops}
use Rattle.color.specs.Stop.{Channel, Stop, stop_of}
use Rattle.color.specs.Byte.{rgba, bytes, color_at}
use Rattle.color.specs.Lent.{values_at, stops_of, values_for}
use Rattle.color.specs.Average.{equally_apart, average_of}
use Rattle.color.specs.Paint.{Paint, repeated, one_color, period_of, repeated_by, paint_of, paint_at}
use Rattle.color.specs.Numbers.{Lendable, positions_of, values_of}
use Rattle.color.specs.declared.Rgba.{Rgba}
use Rattle.color.proofs.Lent.{color-alone}
use Rattle.color.proofs.Numbers.{length-positions, length-values, stops-of, position-range, lent}
use Rattle.words.specs.Word.{word_bytes}
use Rattle.picture.specs.Picture.{patched}
use Rattle.picture.proofs.Patches.{patch-here, patch-kept, patch-before, patch-length}
use Rattle.table.specs.Table.{packed, entry_of, Stretched}
use Rattle.table.specs.declared.Stretch.{Stretch}
use Rattle.table.proofs.Packing.{entry-is, entry-bytes}
use Rattle.table.proofs.Runs.{rising_le}
use Rattle.table.proofs.Stretches.{stretched-moved}
use Rattle.repeats.specs.Repeats.{first_in, last_in, Periodic, repeated_of}
use Rattle.repeats.proofs.Periods.{period-is, repeated-bytes}
use Rattle.repeats.proofs.Periods as repeats
use Rattle.ramp.specs.Ramp.{positions_in, values_in, stops_in, repeats_in, period_in, color_in, Spread, Stops, Holds, Made, Like, Biased}

-- what stands within the first k elements
inner : {A : Type 0} (n m k : ℕ) (l : List A) → m + n ≤ k → take n (drop m (take k l)) ≡ take n (drop m l)
inner n zero k l h = take-take n k l (omega arith)
inner n (suc m) zero l h = absurd (omega arith)
inner n (suc m) (suc k) [] h = refl
inner n (suc m) (suc k) (x ∷ l) h = inner n m k l (omega arith)

-- the words but word 1 of a head
module _ (q r : List ℕ) (b : ℕ) (long : 84 ≤ length q) (few : get_or q 0 0 ≤ 16) (e : take 84 r ≡ set (take 84 q) 1 b) where
  full : length (take 84 q) ≡ 84
  full = length-take-le 84 q long

  pub same_count : get_or r 0 0 ≡ get_or q 0 0
  same_count =
      sym (get_or-take 84 r 0 0 (omega arith)) ∙ ap (λ (l : List ℕ). get_or l 0 0) e ∙ get_or-set_other (take 84 q) 1 0 b 0 (λ p. omega arith)
      ∙ get_or-take 84 q 0 0 (omega arith)

  pub same_base : get_or r 1 0 ≡ b
  same_base =
      sym (get_or-take 84 r 1 0 (omega arith)) ∙ ap (λ (l : List ℕ). get_or l 1 0) e ∙ get_or-set_same (take 84 q) 1 b 0 (omega (arith, full))

  same-part : (n m : ℕ) → 1 < m → m + n ≤ 84 → take n (drop m r) ≡ take n (drop m q)
  same-part n m h k =
      sym (inner n m 84 r k) ∙ ap (λ (l : List ℕ). take n (drop m l)) e ∙ ap (take n) (drop-set-lt m (take 84 q) 1 b h) ∙ inner n m 84 q k

  pub same-positions : positions_in r ≡ positions_in q
  same-positions = ap (λ (n : ℕ). take n (drop 4 r)) same_count ∙ same-part (get_or q 0 0) 4 (omega arith) (omega arith)

  pub same-values : values_in r ≡ values_in q
  same-values = ap (λ (n : ℕ). take (4 * n) (drop 20 r)) same_count ∙ same-part (4 * get_or q 0 0) 20 (omega arith) (omega arith)

  pub same_flag : get_or r 2 0 ≡ get_or q 2 0
  same_flag =
      sym (get_or-take 84 r 2 0 (omega arith)) ∙ ap (λ (l : List ℕ). get_or l 2 0) e ∙ get_or-set_other (take 84 q) 1 2 b 0 (λ p. omega arith)
      ∙ get_or-take 84 q 2 0 (omega arith)

  pub same-colors : (s : ℕ) → color_in r s ≡ color_in q s
  unfolding color_in
  same-colors s = rw (same_flag, same-positions, same-values)

-- a table behind a head like q's
pub like : (q r t : List ℕ) (b : ℕ) → Stops q → take 84 r ≡ set (take 84 q) 1 b → drop 84 r ≡ t → 84 ≤ length r → Spread (color_in q) b 1 t → b + length t ≤ 33554432 → Like q r
like q r t b s e f h w u = record {
  ramp = record {
    stops = record {
      head = h;
      few = rw (same_count q r b s.head s.few e) s.few;
      lent = rw (same-positions q r b s.head s.few e, same-values q r b s.head s.few e) s.lent;
      period = rw (same_flag q r b s.head s.few e, same-positions q r b s.head s.few e, same-values q r b s.head s.few e) s.period;
    };
    table = λ k l. ap (λ (x : List ℕ). get_or x k 0) f ∙ w k (rw f at l)
        ∙ ap (λ (x : ℕ). color_in q (b + x)) (mul-one k) ∙ ap (λ (x : ℕ). color_in q (x + k)) (sym (same_base q r b s.head s.few e))
        ∙ sym (same-colors q r b s.head s.few e (get_or r 1 0 + k));
    range = rw (same_base q r b s.head s.few e, f) u;
  };
  colors = same-colors q r b s.head s.few e;
}

-- a table put behind a head
pub put-table : (xs ys : List ℕ) → 84 ≤ length xs → drop 84 (put_mid 84 (length xs - 84) xs ys) ≡ ys
put-table xs ys h =
    drop_at (take 84 xs) (ys ++ post_of 84 (length xs - 84) xs) 84 (length-take-le 84 xs h)
    ∙ ap (λ (l : List ℕ). ys ++ l) (drop_of_length-le (drop 84 xs) {i = length xs - 84} (rw length-drop (omega arith))) ∙ append-nil ys

pub table-put : (q xs ys : List ℕ) (b : ℕ) → Stops q → take 84 xs ≡ set (take 84 q) 1 b → 84 ≤ length xs → Spread (color_in q) b 1 ys → b + length ys ≤ 33554432 → Like q (put_mid 84 (length xs - 84) xs ys)
table-put q xs ys b s e h w u =
    like q (put_mid 84 (length xs - 84) xs ys) ys b s (take_put 84 (length xs - 84) xs ys h ∙ e) (put-table xs ys h)
    (rw length-append (omega (arith, length-take-le 84 xs h))) w u

-- the positions, one by one
position_at : (r : List ℕ) (i : ℕ) → i < get_or r 0 0 → get_or (positions_in r) i 0 ≡ get_or r (4 + i) 0
position_at r i h = get_or-take (get_or r 0 0) (drop 4 r) i 0 h ∙ get_or-drop 4 r i 0

pub positions-length : (r : List ℕ) → Stops r → length (positions_in r) ≡ get_or r 0 0
positions-length r h = length-take-le (get_or r 0 0) (drop 4 r) (rw length-drop (omega (arith, h.head, h.few)))

pub first-at : (r : List ℕ) → Stops r → 0 < get_or r 0 0 → first_in (positions_in r) ≡ get_or r 4 0
first-at r h some = position_at r 0 some

pub last-at : (r : List ℕ) → Stops r → 0 < get_or r 0 0 → last_in (positions_in r) ≡ get_or r (4 + (get_or r 0 0 - 1)) 0
last-at r h some = ap (λ (n : ℕ). get_or (positions_in r) (n - 1) 0) (positions-length r h) ∙ position_at r (get_or r 0 0 - 1) (omega arith)

-- ---- the colors of a head
pub color-once : (r : List ℕ) → repeats_in r ≡ false → (s : ℕ) → entry_of (positions_in r) (values_in r) (bias + s) ≡ color_in r s
unfolding color_in entry_of
color-once r e s = rw e (ap (λ (z : ℤ). packed (color_at (stops_in r) z)) (biased-count bias s))

pub color-repeated : (r : List ℕ) → repeats_in r ≡ true → (s : ℕ) → repeated_of (positions_in r) (values_in r) (bias + s) ≡ color_in r s
unfolding color_in repeated_of
color-repeated r e s = rw e (ap (λ (z : ℤ). packed (paint_at (repeated (stops_in r)) z)) (biased-count bias s))

-- .. which come again
pub color-again : (r : List ℕ) → Stops r → (e : repeats_in r ≡ true) → (b s : ℕ) → b ≤ s → 0 < period_in r → color_in r (b + (s - b) % period_in r) ≡ color_in r s
color-again r h e b s l some =
    let p : ℕ = period_in r in
    let q : ℕ = p * ((s - b) / p) in
    let d : bias + (b + (s - b) % p) + q ≡ bias + s = omega (arith, div-add-mod' (s - b) p) in
    sym (color-repeated r e (b + (s - b) % p))
    ∙ sym (repeats.color-again (positions_in r) (values_in r) (h.period e) (bias + (b + (s - b) % p)) q (mul-mod_right p ((s - b) / p)))
    ∙ ap (repeated_of (positions_in r) (values_in r)) d ∙ color-repeated r e s

-- .. in a stretch that begins at the location 0 or later
pub biased-is : (r : List ℕ) (t : Stretch) (f : ℕ → ℕ) → ((s : ℕ) → f (bias + s) ≡ color_in r s) → Stretched f t → (0 < t.count → bias ≤ t.first) → Biased r t
biased-is r t f e h low = record { colors = stretched-moved f _ t t refl refl h h.range same; low = low }
  where
    same : (k : ℕ) → k < t.count → f (t.first + k) ≡ color_in r (t.first + k - bias)
    same k l =
        let w = low (omega arith) in
        let i : t.first + k ≡ bias + (t.first + k - bias) = omega arith in
        ap f i ∙ e (t.first + k - bias)

-- their bytes
once-bytes : (r : List ℕ) → Stops r → repeats_in r ≡ false → (s : ℕ) → word_bytes (color_in r s) ≡ bytes (color_at (stops_in r) (unbiased (bias + s)))
once-bytes r h e s = ap word_bytes (sym (color-once r e s)) ∙ entry-bytes (positions_in r) (values_in r) h.lent (bias + s)

-- one stop gives all locations one color
pub one-color : (r : List ℕ) → Stops r → get_or r 0 0 ≡ 1 → (s t : ℕ) → color_in r s ≡ color_in r t
one-color r h e s t = go (repeats_in r) refl
  where
    one : length (positions_in r) ≡ 1
    one = positions-length r h ∙ e

    same : (k : ℕ) → entry_of (positions_in r) (values_in r) k ≡ packed (rgba (λ c. nearest (values_at (values_in r) 0 c ⁄ 255)))
    same k = sym (entry-is (positions_in r) (values_in r) h.lent _ k (color-alone (positions_in r) (values_in r) h.lent k one))

    go : (b : Bool) → repeats_in r ≡ b → color_in r s ≡ color_in r t
    go false f = sym (color-once r f s) ∙ same (bias + s) ∙ sym (same (bias + t)) ∙ color-once r f t
    go true f =
        let p : first_in (positions_in r) < last_in (positions_in r) = (h.period f).period in
        let l : length (positions_in r) - 1 ≡ 0 = omega (arith, one) in
        let q = ap (λ (k : ℕ). get_or (positions_in r) k 0) l in
        absurd (omega (arith, p, q))

-- the last position of stops is not far away
last-near : (l : List PlacedStop) → all place_in l ≡ true → 0 < length l → last_in (positions_of l) ≤ twice_bias
last-near l r h = position-range l r (length (positions_of l) - 1) (omega (arith, length-positions l))

-- ---- the stops put into a head
module _ (p : PlacedStops) (d : List ℕ) (h : Lendable p) (some : 0 < p.count) (many : length (placed_of p) ≡ p.count) (b : AllBytes (placed_of p)) (long : 84 ≤ length d) where
  abbrev ps : List ℕ
  ps = positions_of (placed_of p)

  abbrev vs : List ℕ
  vs = values_of (placed_of p)

  -- the count and the flag
  abbrev counted : List ℕ
  counted = set (set d 0 p.count) 2 0

  abbrev placed : List ℕ
  placed = patched counted 4 ps

  abbrev whole : List ℕ
  whole = patched placed 20 vs

  ps-length : length ps ≡ p.count
  ps-length = length-positions (placed_of p) ∙ many

  values_length : length vs ≡ 4 * p.count
  values_length = length-values (placed_of p) ∙ ap (λ (n : ℕ). 4 * n) many

  counted-length : length counted ≡ length d
  counted-length = length-set (set d 0 p.count) 2 0 ∙ length-set d 0 p.count

  placed-length : length placed ≡ length d
  placed-length = patch-length counted ps 4 (omega (arith, counted-length, ps-length, h.fit)) ∙ counted-length

  whole_length : length whole ≡ length d
  whole_length = patch-length placed vs 20 (omega (arith, placed-length, values_length, h.fit)) ∙ placed-length

  before : (k : ℕ) → k < 4 → get_or whole k 0 ≡ get_or counted k 0
  before k l = patch-before placed vs 20 k 0 (omega (arith, placed-length)) (omega arith) ∙ patch-before counted ps 4 k 0 (omega (arith, counted-length)) (omega arith)

  pub count-is : get_or whole 0 0 ≡ p.count
  count-is = before 0 (omega arith) ∙ get_or-set_other (set d 0 p.count) 2 0 0 0 (λ e. omega arith) ∙ get_or-set_same d 0 p.count 0 (omega arith)

  flag_is : get_or whole 2 0 ≡ 0
  flag_is = before 2 (omega arith) ∙ get_or-set_same (set d 0 p.count) 2 0 0 (omega (arith, length-set d 0 p.count))

  positions-are : positions_in whole ≡ ps
  positions-are =
      ap (λ (n : ℕ). take n (drop 4 whole)) count-is
      ∙ patch-kept placed vs 20 4 p.count (omega (arith, h.fit)) (omega (arith, placed-length))
      ∙ patch-here counted ps 4 p.count ps-length (omega (arith, counted-length))

  values-are : values_in whole ≡ vs
  values-are =
      ap (λ (n : ℕ). take (4 * n) (drop 20 whole)) count-is ∙ patch-here placed vs 20 (4 * p.count) values_length (omega (arith, placed-length))

  plain-is : repeats_in whole ≡ false
  plain-is = rw flag_is

  pub held : Holds (placed_of p) whole
  unfolding places_in
  held = record {
    stops = record {
      head = omega (arith, whole_length);
      few = rw count-is h.fit;
      lent = rw (positions-are, values-are) (lent p h (omega arith) b);
      period = λ e. absurd (false≢true (sym plain-is ∙ e));
    };
    same = ap₂ stops_of positions-are values-are ∙ stops-of (placed_of p) h.range;
    plain = plain-is;
    near = rw positions-are (last-near (placed_of p) h.range (rw many some));
    bytes = b;
  }

-- ---- how they color
-- not repeated
pub made-once : (l : List PlacedStop) (r : List ℕ) → Holds l r → Made (paint_of false (map stop_of l)) r
made-once l r h = record {
  stops = h.stops;
  colors = λ s. once-bytes r h.stops h.plain s ∙ ap₂ (λ (x : List Stop) (z : ℤ). bytes (color_at x z)) h.same (biased-count bias s);
}

paint-repeated : (stops : List Stop) → 0 < period_of stops → paint_of true stops ≡ repeated stops
paint-repeated stops h = go (period_of stops) refl
  where
    go : (p : ℕ) → p ≡ period_of stops → repeated_by p stops ≡ repeated stops
    go zero e = absurd (omega arith)
    go (suc p) e = refl

module _ (l : List PlacedStop) (q : List ℕ) (h : Holds l q) where
  abbrev F : ℕ
  F = first_in (positions_in q)

  abbrev T : ℕ
  T = last_in (positions_in q)

  period : F ≤ T → period_of (map stop_of l) ≡ T - F
  period o = ap period_of (sym h.same) ∙ period-is (positions_in q) (values_in q) h.stops.lent o

  -- repeated
  pub made-repeated : F < T → Made (paint_of true (map stop_of l)) (set q 2 1)
  made-repeated o =
      let ep : positions_in (set q 2 1) ≡ positions_in q = ap₂ (λ (n : ℕ) (x : List ℕ). take n x) count (drop-set-lt 4 q 2 1 (omega arith)) in
      let ev : values_in (set q 2 1) ≡ values_in q = ap₂ (λ (n : ℕ) (x : List ℕ). take (4 * n) x) count (drop-set-lt 20 q 2 1 (omega arith)) in
      let periodic : Periodic (positions_in q) (values_in q) = record { lent = h.stops.lent; period = o; range = h.near } in
      let flag : repeats_in (set q 2 1) ≡ true = rw (get_or-set_same q 2 1 0 (omega (arith, h.stops.head))) in
      let e = ap₂ stops_of ep ev ∙ h.same in
      record {
        stops = record {
          head = rw length-set h.stops.head;
          few = rw count h.stops.few;
          lent = rw (ep, ev) h.stops.lent;
          period = λ _. rw (ep, ev) periodic;
        };
        colors = λ s.
            ap word_bytes (sym (color-repeated (set q 2 1) flag s)) ∙ repeated-bytes (positions_in (set q 2 1)) (values_in (set q 2 1)) (rw (ep, ev) periodic) (bias + s)
            ∙ ap₂ (λ (x : List Stop) (z : ℤ). bytes (paint_at (repeated x) z)) e (biased-count bias s)
            ∙ ap (λ (x : Paint). bytes (paint_at x (pos s))) (sym (paint-repeated (map stop_of l) (rw (period (omega arith)) (omega arith))));
      }
    where
      count : get_or (set q 2 1) 0 0 ≡ get_or q 0 0
      count = get_or-set_other q 2 0 1 0 (λ e. omega arith)

  -- of one color
  module _ (c : Rgba) (some : 0 < length (positions_in q)) (o : T ≤ F) (hr : c.red ≤ 255) (hg : c.green ≤ 255) (hb : c.blue ≤ 255) (ha : c.alpha ≤ 255)
      (e : c ≡ rgba (λ (k : Channel). nearest (average_of equally_apart (stops_in q) k))) where
    abbrev r : List ℕ
    r = patched (set q 0 1) 20 (values_for c)

    long : 84 ≤ length (set q 0 1)
    long = rw length-set h.stops.head

    r-length : length r ≡ length q
    r-length = patch-length (set q 0 1) (values_for c) 20 (omega (arith, long)) ∙ length-set q 0 1

    r-count : get_or r 0 0 ≡ 1
    r-count = patch-before (set q 0 1) (values_for c) 20 0 0 (omega (arith, long)) (omega arith) ∙ get_or-set_same q 0 1 0 (omega (arith, h.stops.head))

    r-flag : get_or r 2 0 ≡ get_or q 2 0
    r-flag = patch-before (set q 0 1) (values_for c) 20 2 0 (omega (arith, long)) (omega arith) ∙ get_or-set_other q 0 2 1 0 (λ p. omega arith)

    r-plain : repeats_in r ≡ false
    r-plain = rw r-flag h.plain

    r-positions : length (positions_in r) ≡ 1
    r-positions = length-take-le (get_or r 0 0) (drop 4 r) (rw (length-drop, r-count) (omega (arith, r-length, h.stops.head))) ∙ r-count

    r-values : values_in r ≡ values_for c
    r-values = ap (λ (n : ℕ). take (4 * n) (drop 20 r)) r-count ∙ patch-here (set q 0 1) (values_for c) 20 4 refl (omega (arith, long))

    small : (i : ℕ) → get_or (values_for c) i 0 ≤ 65025
    small zero = omega arith
    small (suc zero) = omega arith
    small (suc (suc zero)) = omega arith
    small (suc (suc (suc zero))) = omega arith
    small (suc (suc (suc (suc i)))) = omega arith

    r-stops : Stops r
    r-stops = record {
      head = omega (arith, r-length, h.stops.head);
      few = omega (arith, r-count);
      lent = rw r-values (record {
        some = omega (arith, r-positions);
        four = omega (arith, r-positions);
        small = small;
        rising = λ i l. absurd (omega (arith, r-positions));
      });
      period = λ f. absurd (false≢true (sym r-plain ∙ f));
    }

    own-byte : (b : ℕ) → nearest ((255 * b) ⁄ 255) ≡ b
    own-byte b = omega arith

    own : rgba (λ (k : Channel). nearest (values_at (values_in r) 0 k ⁄ 255)) ≡ c
    own =
        ap (λ (x : List ℕ). rgba (λ (k : Channel). nearest (values_at x 0 k ⁄ 255))) r-values
        ∙ (λ i. record { red = own-byte c.red i; green = own-byte c.green i; blue = own-byte c.blue i; alpha = own-byte c.alpha i })

    no-period : period_of (map stop_of l) ≡ 0
    no-period =
        let w : 0 + (length (positions_in q) - 1) ≡ length (positions_in q) - 1 = omega arith in
        let z = rw w at (rising_le (positions_in q) h.stops.lent.rising 0 (length (positions_in q) - 1) (omega arith)) in
        period z ∙ omega arith

    pub made_one : Made (paint_of true (map stop_of l)) r
    made_one = record {
      stops = r-stops;
      colors = λ s.
          once-bytes r r-stops r-plain s ∙ ap bytes (sym (color-alone (positions_in r) (values_in r) r-stops.lent (bias + s) r-positions) ∙ own ∙ e)
          ∙ ap (λ (x : List Stop). bytes (paint_at (one_color (average_of equally_apart x) x) (pos s))) h.same
          ∙ ap (λ (p : ℕ). bytes (paint_at (repeated_by p (map stop_of l)) (pos s))) (sym no-period);
    }
