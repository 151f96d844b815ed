-- The walks of a loop that fills, some steps at once.
-- Assumes nothing.
use mathlib.Core.Path.{◌≡◌, sym, ap, subst}
use mathlib.Core.List.{List}
use Prim.Native.Nat.{ℕ, ◌+◌, ◌-◌, ◌*◌, ◌≤◌, ◌<◌}
use native.Mathlib.Nat.{mul-le-mul_right}
use native.Mathlib.Omega.{arith}
use Rattle.color.specs.Stop.{Channel}
use Rattle.color.specs.declared.Rgba.{Rgba}
use Rattle.walk.specs.Walk.{Further, Fits}
use Rattle.walk.specs.Channels.{channel_of, Going, Alike, mix_of}
use Rattle.walk.specs.declared.Walk.{Walk}
use Rattle.walk.specs.declared.Channels.{Channels}
use Rattle.walk.proofs.Four.{going-fits, going-further, going-steady}
use Rattle.table.specs.Table.{packed, walked_at, Reached, Spans}

-- the locations of entries before b lie within the gap
pub inside : (g s x a b k : ℕ) → k < b → Spans g s x a b → x + (k - a) * s ≤ g
inside g s x a b k l h =
    let m : (k - a) * s ≤ (b - 1 - a) * s = mul-le-mul_right s (omega arith) in
    omega (arith, h.within)

-- fewer entries
pub spans-less : (g s x a b c : ℕ) → c ≤ b → Spans g s x a b → Spans g s x a c
spans-less g s x a b c l h =
    let m : (c - 1 - a) * s ≤ (b - 1 - a) * s = mul-le-mul_right s (omega arith) in
    record { few = omega (arith, h.few); within = omega (arith, h.within) }

-- the first entry
pub reached-first : (vs : List ℕ) (i g s x a : ℕ) (w : Channels Walk) → Going vs i g s x 262144 w → Reached vs i g s x a a w
reached-first vs i g s x a w h =
    let z : a - a ≡ 0 = omega arith in
    let m : (a - a) * s ≡ 0 * s = ap (λ (k : ℕ). k * s) z in
    let e₁ : x + (a - a) * s ≡ x = omega arith in
    let e₂ : 262144 - (a - a) ≡ 262144 = omega arith in
    rw (e₁, e₂) h

-- n entries further
along : (s x a k n : ℕ) → a ≤ k → x + (k - a) * s + n * s ≡ x + (k + n - a) * s
along s x a k n h =
    let e : k - a + n ≡ k + n - a = omega arith in
    let m : (k - a + n) * s ≡ (k + n - a) * s = ap (λ (z : ℕ). z * s) e in
    omega arith

module _ (vs : List ℕ) (i g s x a b k : ℕ) (w : Channels Walk) (h : a ≤ k) (sp : Spans g s x a b) (r : Reached vs i g s x a k w) where
  module _ (n : ℕ) (l : k + n < b) where
    toward : Going vs i g s (x + (k - a) * s) (262144 - (k + n - a) + n) w
    toward =
        let e : 262144 - (k - a) ≡ 262144 - (k + n - a) + n = omega (arith, sp.few) in
        rw e at r

    near : x + (k - a) * s + n * s ≤ g
    near = rw (along s x a k n h) (inside g s x a b (k + n) l sp)

    pub reached-fits : (c : Channel) → Fits n (channel_of w c)
    reached-fits = going-fits n vs i g s (x + (k - a) * s) (262144 - (k + n - a)) w near toward

    pub reached-further : (v : Channels Walk) → ((c : Channel) → Further n (channel_of w c) (channel_of v c)) → Reached vs i g s x a (k + n) v
    reached-further v e = rw (along s x a k n h) at (going-further n vs i g s (x + (k - a) * s) (262144 - (k + n - a)) w near toward v e)

  -- the color where the walks are
  pub reached-color : k < b → (p : Rgba) → ((us : List ℕ) (j g' s' x' left : ℕ) → Going us j g' s' x' (left + 1) w → p ≡ mix_of us j x' (g' - x'))
      → packed p ≡ walked_at vs i g s x a k
  unfolding walked_at
  reached-color l p e =
      let e₁ : 262144 - (k - a) ≡ 262143 - (k - a) + 1 = omega (arith, sp.few) in
      ap packed (e vs i g s (x + (k - a) * s) (262143 - (k - a)) (rw e₁ at r))

  -- a leap that ends at the color where it began passes no other
  pub reached-steady : (n : ℕ) → k + n < b → (v : Channels Walk) → ((c : Channel) → Further n (channel_of w c) (channel_of v c)) → Alike w v
      → (j : ℕ) → k ≤ j → j ≤ k + n → walked_at vs i g s x a k ≡ walked_at vs i g s x a j
  unfolding walked_at
  reached-steady n l v e same j m o =
      let e₁ : 262144 - (k - a) ≡ 262144 - (k + n + 1 - a) + (n + 1) = omega (arith, sp.few) in
      let e₂ : k + (j - k) ≡ j = omega arith in
      let z = going-steady n vs i g s (x + (k - a) * s) (262144 - (k + n + 1 - a)) w v (near n l) (rw e₁ at r) e same (j - k) (omega arith) in
      ap packed (sym (rw (along s x a k (j - k) h, e₂) at z))

-- past n entries
pub reached-past : (n m : ℕ) → n ≡ m + 1 → (vs : List ℕ) (i g s x a k b : ℕ) → k + n < b → (w v u : Channels Walk) → a ≤ k → Reached vs i g s x a k w
    → ((c : Channel) → Further m (channel_of w c) (channel_of v c)) → ((c : Channel) → Fits 1 (channel_of v c) → Further 1 (channel_of v c) (channel_of u c))
    → Spans g s x a b → Reached vs i g s x a (k + n) u
reached-past n m z vs i g s x a k b y w v u h r e f sp =
    let r₁ = reached-further vs i g s x a b k w h sp r m (omega arith) v e in
    let l : k + m + 1 < b = omega arith in
    let o : a ≤ k + m = omega arith in
    let r₂ = reached-further vs i g s x a b (k + m) v o sp r₁ 1 l u (λ c. f c (reached-fits vs i g s x a b (k + m) v o sp r₁ 1 l c)) in
    let q : k + m + 1 ≡ k + n = omega arith in
    subst (λ (z : ℕ). Reached vs i g s x a z u) q r₂
