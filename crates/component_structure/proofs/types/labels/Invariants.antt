use Rattle.std.proofs.Common.{◌≡◌, ◌-◌, []}
use Rattle.component_structure.specs.Types.{member_label}
use Rattle.component_structure.proofs.types.labels.Given as goal
use Rattle.component_structure.specs.Bytes.{repeat}

abbrev pub invariant-loop : goal.invariant-loop
invariant-loop l = record {
  whole : l.reader.end ≡ l.initial.reader.end;
  so_far : (repeat (l.count - l.counter) (member_label l.initial.reader.end) (l.names, l.labels.items)).read l.reader.rest.now ≡ (repeat l.count (member_label l.initial.reader.end) ([], [])).read l.initial.reader.rest.now;
}
