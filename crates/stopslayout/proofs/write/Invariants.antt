-- `stopslayout::write` meets its contract. The invariant: the first places stand from byte 4 on. Assumes nothing.
use mathlib.Core.Path.{◌≡◌}
use lib.ListN.{take}
use Rattle.picture.specs.Picture.{patched}
use Rattle.words.specs.Word.{each}
use Rattle.stopslayout.specs.Words.{stop_bytes}
use Rattle.stopslayout.proofs.write.Given as goal

abbrev pub invariant-loop-place : goal.invariant-loop-place
invariant-loop-place l = l.out ≡ patched l.initial.out 4 (each stop_bytes (take l.place l.fn.p.stops))
