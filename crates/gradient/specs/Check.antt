-- The reply to a gradient that is handed in as a value. Document 01: "A chart .. handed in .. that breaks its layout .. also gets 4, before
-- its contents are judged", 5 where "a number is outside its range", 6 for "more than 16 stops".
-- Assumes nothing.
use Rattle.std.specs.Prelude.{◌≡◌, Bool, true, not, List, ℕ, ◌≤◌, ◌<◌, ltb, get_or, take, drop}
use Rattle.replies.specs.Replies.{malformed, out_of_range, too_many_stops, given, ◌or_else◌}
use Rattle.gradient.specs.Lists.{all}
use Rattle.gradient.specs.Blank.{blank_stop, is_blank}
use Rattle.gradient.specs.Range.{shape_in, stop_in}
use Rattle.gradient.specs.declared.Stop.{Stop}
use Rattle.gradient.specs.declared.Gradient.{Gradient}

-- the color stops in their order, and the places after them
abbrev pub stops_of : Gradient → List Stop
stops_of g = take g.count g.stops

abbrev pub unused_of : Gradient → List Stop
unused_of g = drop g.count g.stops

unfoldable pub blank_past : Gradient → Bool
blank_past g = all is_blank (unused_of g)

unfoldable pub stops_in : Gradient → Bool
stops_in g = all stop_in (stops_of g)

-- fewer than two stops or an unused place that is not blank: 4; a number out of its range: 5; more than 16 stops: 6
unfoldable pub check_of : Gradient → ℕ
check_of g =
    given (ltb g.count 2) malformed
    or_else given (not (blank_past g)) malformed
    or_else given (not (shape_in g.shape)) out_of_range
    or_else given (not (stops_in g)) out_of_range
    or_else given (ltb 16 g.count) too_many_stops

-- what the reply 0 says of a gradient
pub record Accepted (g : Gradient) : Type 0 where
  pub two : 2 ≤ g.count
  pub fit : g.count ≤ 16
  pub blank : blank_past g ≡ true
  pub shape : shape_in g.shape ≡ true
  pub stops : (i : ℕ) → i < g.count → stop_in (get_or g.stops i blank_stop) ≡ true
