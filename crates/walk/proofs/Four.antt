-- A walk for each channel.
-- Assumes nothing.
use Rattle.std.proofs.Common.{◌≡◌, ℕ, ◌+◌, ◌-◌, ◌*◌, ◌≤◌, List}
use Rattle.numbers.specs.Fraction.{nearest}
use Rattle.color.specs.Stop.{Channel, red, green, blue, alpha}
use Rattle.color.specs.Byte.{rgba}
use Rattle.color.specs.Lent.{values_at, mix}
use Rattle.color.specs.declared.Rgba.{Rgba}
use Rattle.walk.specs.Walk.{Further, Fits}
use Rattle.walk.specs.Channels.{channel_of, Going, Alike, mix_of}
use Rattle.walk.specs.declared.Walk.{Walk}
use Rattle.walk.specs.declared.Channels.{Channels}
use Rattle.walk.proofs.Walks.{walk-fits, walk-further, walk-steady}

-- what holds of each channel
pub every : (P : Channel → Type 0) → P red → P green → P blue → P alpha → (c : Channel) → P c
every P r g b a red = r
every P r g b a green = g
every P r g b a blue = b
every P r g b a alpha = a

pub rgba-is : (f : Channel → ℕ) {r g b a : ℕ} → r ≡ f red → g ≡ f green → b ≡ f blue → a ≡ f alpha
    → ◌≡◌ {A = Rgba} (record { red = r; green = g; blue = b; alpha = a }) (rgba f)
rgba-is f hr hg hb ha = rw (hr, hg, hb, ha)

-- n steps at once
module _ (n : ℕ) (vs : List ℕ) (i g s x left : ℕ) (w : Channels Walk) (l : x + n * s ≤ g) (h : Going vs i g s x (left + n) w) where
  pub going-fits : (c : Channel) → Fits n (channel_of w c)
  going-fits c = walk-fits n (values_at vs i c) (values_at vs (i + 1) c) g s x left (channel_of w c) (h c) l

  pub going-further : (v : Channels Walk) → ((c : Channel) → Further n (channel_of w c) (channel_of v c)) → Going vs i g s (x + n * s) left v
  going-further v e c = walk-further n (values_at vs i c) (values_at vs (i + 1) c) g s x left (channel_of w c) (h c) l (channel_of v c) (e c)

-- a leap that ends at the color where it began passes no other
pub going-steady : (most : ℕ) (vs : List ℕ) (i g s x left : ℕ) (w v : Channels Walk) → x + most * s ≤ g → Going vs i g s x (left + (most + 1)) w
    → ((c : Channel) → Further most (channel_of w c) (channel_of v c)) → Alike w v
    → (n : ℕ) → n ≤ most → mix_of vs i (x + n * s) (g - (x + n * s)) ≡ mix_of vs i x (g - x)
going-steady most vs i g s x left w v l h e same n m =
    let byte : (c : Channel) → nearest (mix (values_at vs i c) (values_at vs (i + 1) c) (x + n * s) (g - (x + n * s))) ≡ nearest (mix (values_at vs i c) (values_at vs (i + 1) c) x (g - x)) =
    λ c. walk-steady most (values_at vs i c) (values_at vs (i + 1) c) g s x left (channel_of w c) (channel_of v c) (h c) l (e c) (same c) n m in
    rgba-is (λ c. nearest (mix (values_at vs i c) (values_at vs (i + 1) c) x (g - x))) (byte red) (byte green) (byte blue) (byte alpha)
