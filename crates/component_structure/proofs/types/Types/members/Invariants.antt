use Rattle.std.proofs.Common.{◌≡◌, ◌-◌, []}
use Rattle.component_structure.specs.Types.{member}
use Rattle.component_structure.proofs.types.Types.members.Given as goal
use Rattle.component_structure.specs.Bytes.{repeat}

abbrev pub invariant-loop : goal.invariant-loop
invariant-loop l = record {
  whole : l.reader.end ≡ l.initial.reader.end;
  so_far : (repeat (l.count - l.counter) (member l.initial.reader.end l.self.scope.now.types.items) l.members.items).read l.reader.rest.now ≡ (repeat l.count (member l.initial.reader.end l.self.scope.now.types.items) []).read l.initial.reader.rest.now;
}
