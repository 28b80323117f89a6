use Rattle.std.proofs.Common.{◌≡◌, take}
use Rattle.component_reader.proofs.types.labels.Given as goal

abbrev pub invariant-loop-label : goal.invariant-loop-label
invariant-loop-label l = l.labels.items ≡ take l.label-index l.raw
