-- The flat values so far are those of the values so far.
use Rattle.std.proofs.Common.{◌≡◌, map, take}
use Rattle.host_calls.specs.Values.{flat_of}
use Rattle.host_calls.proofs.value.put_flats.Given as goal

abbrev pub invariant-loop-value : goal.invariant-loop-value
invariant-loop-value g l = l.flats.items ≡ map flat_of (take l.value-index l.values)
