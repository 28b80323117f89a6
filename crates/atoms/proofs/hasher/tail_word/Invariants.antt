use Rattle.std.proofs.Common.{◌≡◌, drop}
use Rattle.std.specs.List.{fold}
use Rattle.atoms.specs.Hashing.{with_byte}
use Rattle.atoms.proofs.hasher.tail_word.Given as goal

abbrev pub invariant-loop-byte : goal.invariant-loop-byte
invariant-loop-byte l = fold with_byte l.word (drop l.byte-index l.bytes) ≡ fold with_byte 1 l.bytes
