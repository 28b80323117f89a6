use Rattle.std.proofs.Common.{◌≡◌, map, take}
use Rattle.module_worlds.specs.Fits.{core_type_of}
use Rattle.module_worlds.proofs.fit.core_types.Given as goal

abbrev pub invariant-loop-kind : goal.invariant-loop-kind
invariant-loop-kind l = l.types.items ≡ map core_type_of (take l.kind-index l.kinds)
