use Rattle.std.proofs.Common.{take}
use Rattle.opening.specs.Sets.{all_bytes}
use Rattle.opening.proofs.SetsAreOne.{IsOneSet}
use Rattle.opening.proofs.set.set_of.Given as goal

abbrev pub invariant-loop-bytes : goal.invariant-loop-bytes
invariant-loop-bytes l = IsOneSet (all_bytes (take l.bytes-index l.inputs)) l.set.resolve
