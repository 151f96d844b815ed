-- What the array of a list holds of the stops read, and the items of a text as the code takes them.
-- Assumes nothing.
use denote.Bor.{Bor}
use Rattle.std.specs.Prelude.{ℕ, ◌+◌, ◌-◌, min, Bool, false, cond, not, ◌||◌, List, [], ◌++◌, ltb, length, take, set, replicate, Option, Some, None}
use Rattle.text.specs.Text.{is, Read, got, refused}
use Rattle.gradient.specs.declared.Stop.{Stop}
use Rattle.gradient.specs.Lists.{all}
use Rattle.gradient.specs.Blank.{blank_stop}
use Rattle.gradient.specs.Range.{stop_in}
use Rattle.stoplist.specs.declared.StopList.{StopList}
use Rattle.stoplist.specs.Stops.{items_of}

-- up to 16 stops in the 16 places, the places after them blank
abbrev pub places : List Stop → List Stop
places ss = take 16 ss ++ replicate (16 - length ss) blank_stop

-- what a list holds of the stops read
unfoldable pub list_of : List Stop → StopList
list_of ss = record { stops = places ss; count = min (length ss) 17; wide = not (all stop_in ss) }

abbrev pub blank_list : StopList
blank_list = record { stops = replicate 16 blank_stop; count = 0; wide = false }

-- a list with one stop more; the law `list-more` says that this is what it holds of the stops with that one after them
unfoldable pub added : StopList → Stop → StopList
added t s = record {
  stops = cond (ltb t.count 16) (set t.stops t.count s) t.stops;
  count = cond (ltb t.count 16) (t.count + 1) 17;
  wide = t.wide || not (stop_in s);
}

abbrev pub list_in : Read (List Stop) → Option StopList
list_in (got ss l) = Some (list_of ss)
list_in refused = None

-- a byte that is no comma, and the items after a comma, if there is one
unfoldable pub not_comma : ℕ → Bool
not_comma b = not (is "," b)

abbrev pub items_in : Option (Bor (List ℕ)) → List (List ℕ)
items_in (Some rest) = items_of rest.now
items_in None = []
