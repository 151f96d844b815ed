-- The invariant: the bytes from the place on take the register where all of them take the first one.
use Rattle.std.proofs.Common.{◌≡◌, drop}
use Rattle.checksums.specs.Crc.{register, swapped}
use Rattle.checksums.proofs.crc32.Given as goal

abbrev pub invariant-loop-b : goal.invariant-loop-b
invariant-loop-b l = register l.r (drop l.b-index l.s) ≡ register (swapped l.c) l.s
