use Rattle.std.proofs.Common.{map}
use Rattle.tables.specs.Closed.{closed_types}
use Rattle.values.specs.Val.{value_of}
use Rattle.witcall.proofs.TypedLists.{Rests}
use Rattle.witcall.proofs.typing.have_types.Given as goal

abbrev pub invariant-loop-i : goal.invariant-loop-i
invariant-loop-i l = Rests (closed_types l.resolve) l.types (map value_of l.values) l.i
