-- `layout::put_head` meets its contract. The invariant: the first k words stand there. Assumes nothing.
use mathlib.Core.Path.{◌≡◌}
use lib.ListN.{take}
use Rattle.picture.specs.Picture.{patched}
use Rattle.words.specs.Word.{word_bytes, each}
use Rattle.layout.proofs.put_head.Given as goal

abbrev pub invariant-loop-k : goal.invariant-loop-k
invariant-loop-k l = l.out ≡ patched l.initial.out 0 (each word_bytes (take l.k l.fn.ws))
