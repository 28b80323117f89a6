use Rattle.std.proofs.Common.{◌≡◌, length}
use Rattle.atoms.specs.Hashing.{write}
use Rattle.atoms.proofs.hasher.NameHasherHasher.write.Given as goal

abbrev pub invariant-loop-rest : goal.invariant-loop-rest
invariant-loop-rest l = write l.self l.rest ≡ write l.initial.self l.bytes

abbrev pub decreases-loop-rest : goal.decreases-loop-rest
decreases-loop-rest l = length l.rest
