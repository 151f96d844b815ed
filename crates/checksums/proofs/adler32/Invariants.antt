-- The invariant: the bytes from the place on take the two sums where all of them take the first two.
use Rattle.std.proofs.Common.{◌≡◌, ◌<◌, drop}
use Rattle.checksums.specs.Adler.{sums, adler}
use Rattle.checksums.proofs.adler32.Given as goal

abbrev pub invariant-loop-b : goal.invariant-loop-b
invariant-loop-b l = record { sums : sums l.one l.two (drop l.b-index l.s) ≡ adler l.c l.s; one : l.one < 65536; two : l.two < 65536 }
