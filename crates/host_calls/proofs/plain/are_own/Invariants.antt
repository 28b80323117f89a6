-- The core values so far are their values' own.
use Rattle.std.proofs.Common.{map, take}
use Rattle.values.specs.Members.{fields_of_types}
use Rattle.adapter.specs.Plain.{AreOwn}
use Rattle.host_calls.specs.Values.{flat_of}
use Rattle.host_calls.proofs.plain.are_own.Given as goal

abbrev pub invariant-loop-i : goal.invariant-loop-i
invariant-loop-i l = AreOwn (fields_of_types l.types (take l.i (map (λ p. p.ty) l.params))) (take l.i (map flat_of l.values))
