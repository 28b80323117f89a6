use Rattle.std.proofs.Common.{◌≡◌, ◌-◌, []}
use Rattle.component_structure.specs.Bytes.{repeat}
use Rattle.core_modules.specs.Sections.{next_type}
use Rattle.core_modules.proofs.sections.so_many_types.Given as goal

abbrev pub invariant-loop : goal.invariant-loop
invariant-loop l = record {
  whole : l.reader.end ≡ l.initial.reader.end;
  so_far : (repeat (l.count - l.counter) (next_type l.initial.reader.end) l.types.items).read l.reader.rest.now ≡ (repeat l.count (next_type l.initial.reader.end) []).read l.initial.reader.rest.now;
}
