-- What the reply 0 of a drawing call says, and what is painted then.
-- Assumes nothing.
use mathlib.Core.Path.{◌≡◌}
use mathlib.Core.Bool.{Bool}
use mathlib.Core.List.{List}
use Prim.Native.Nat.{ℕ, ◌<◌}
use native.Mathlib.Omega.{arith}
use Rattle.replies.specs.Room.{strip_reply}
use Rattle.replies.proofs.Laws.{or_else-zero, lowest-zero, strip-zero}
use Rattle.gradient.specs.Check.{Accepted}
use Rattle.gradient.specs.declared.Gradient.{Gradient}
use Rattle.gradient.proofs.Laws.{accepted}
use Rattle.line.specs.Box.{Box}
use Rattle.line.specs.Location.{Rule, location_by}
use Rattle.line.specs.Represented.{rule_in}
use Rattle.line.specs.declared.Line.{Line}
use Rattle.stops.specs.Check.{check_placed_of}
use Rattle.stops.specs.declared.PlacedStop.{PlacedStop}
use Rattle.stops.specs.declared.PlacedStops.{PlacedStops}
use Rattle.stops.proofs.Laws.{accepted-placed, accepted-places}
use Rattle.placing.proofs.Replies.{box-is}
use Rattle.color.specs.Paint.{Paint}
use Rattle.ramp.specs.Ramp.{Made}
use Rattle.picture.proofs.Rows.{strips-alike}
use Rattle.color.specs.Numbers.{Lendable}
use Rattle.picture.specs.Picture.{strip}
use Rattle.rows.specs.Pixel.{pixel_of, ramp_pixel, strip_of, Rows}
use Rattle.rows.specs.declared.Strip.{Strip}
use Rattle.drawing.specs.Replies.{gradient_rows_reply, stops_reply}
use Rattle.drawing.specs.Inner.{Painted}

pub record Room (w h a b n : ℕ) : Type 0 where
  pub box : Box w h
  pub rows : Rows (record { w = w; h = h; a = a; b = b }) n

pub roomy : (w h a b n : ℕ) → strip_reply w h a b n ≡ 0 → Room w h a b n
roomy w h a b n e =
    let k = strip-zero w h a b n e in
    record { box = box-is w h k.box; rows = record { some = k.some; within = k.within; room = k.enough } }

pub record Ready (p : PlacedStops) : Type 0 where
  pub lendable : Lendable p
  pub two : 1 < p.count

-- stops that are accepted can be lent
pub ready : (p : PlacedStops) → check_placed_of p ≡ 0 → Ready p
ready p e =
    let a = accepted-placed p e in
    record { lendable = record { fit = a.fit; range = accepted-places p a; rising = a.rising }; two = omega (arith, a.two) }

-- ---- the reply 0 of the two calls
pub record Drawable (g : Gradient) (w h a b n : ℕ) : Type 0 where
  pub room : Room w h a b n
  pub gradient : Accepted g

pub drawable : (g : Gradient) (w h a b n : ℕ) → gradient_rows_reply g w h a b n ≡ 0 → Drawable g w h a b n
drawable g w h a b n e = let k = or_else-zero _ _ e in record { room = roomy w h a b n k.0; gradient = accepted g k.1 }

pub record Along (g : Gradient) (p : PlacedStops) (w h n : ℕ) : Type 0 where
  pub room : Room w h 0 h n
  pub gradient : Accepted g
  pub stops : Ready p

pub along : (g : Gradient) (p : PlacedStops) (w h n : ℕ) → stops_reply g p w h n ≡ 0 → Along g p w h n
along g p w h n e =
    let k = or_else-zero _ _ e in
    let l = lowest-zero _ _ k.1 in
    record { room = roomy w h 0 h n k.0; gradient = accepted g l.0; stops = ready p l.1 }

-- ---- what is drawn of a ramp
pub same-picture : (p : Paint) (r : List ℕ) → Made p r → (l : Line) (z : Strip)
    → strip_of r l z ≡ strip (pixel_of (rule_in l z.w z.h) p) z.w z.a z.b
same-picture p r m l z =
    strips-alike (ramp_pixel r l z.w z.h) (pixel_of (rule_in l z.w z.h) p) z.w z.a z.b
    (λ i j h k n. m.colors (location_by (rule_in l z.w z.h) i j))

-- ---- a painted buffer, said of equal rules and stops
pub painted_same : {rule rule' : Rule} {repeating : Bool} {stops stops' : List PlacedStop} {w a b : ℕ} {before after : List ℕ} → rule ≡ rule' → stops ≡ stops'
    → Painted rule repeating stops w a b before after → Painted rule' repeating stops' w a b before after
painted_same e k p = rw (← e, ← k) p
