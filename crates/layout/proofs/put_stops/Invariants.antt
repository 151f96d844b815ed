-- `layout::put_stops` meets its contract. The invariant: the places before `place` stand there. Assumes nothing.
use mathlib.Core.Path.{◌≡◌}
use lib.ListN.{take}
use Rattle.picture.specs.Picture.{patched}
use Rattle.words.specs.Word.{each}
use Rattle.layout.proofs.Writes.{stop_bytes}
use Rattle.layout.proofs.put_stops.Given as goal

abbrev pub invariant-loop-place : goal.invariant-loop-place
invariant-loop-place l = l.out ≡ patched l.initial.out 64 (each stop_bytes (take l.place l.fn.stops))
