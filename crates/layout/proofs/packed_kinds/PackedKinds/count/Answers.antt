use Rattle.std.proofs.Common.{arith}
use Rattle.std.proofs.lemmas.Grind.{common_steps}
use Rattle.layout.proofs.KindsOfBits.{length-kinds_by_bits}
use Rattle.layout.proofs.packed_kinds.PackedKinds.count.Goals as goal

pub returns-then-count-le-MAX_FLAT : goal.returns-then-count-le-MAX_FLAT
returns-then-count-le-MAX_FLAT c = grind (arith, common_steps, length-kinds_by_bits)
