use Rattle.std.proofs.Common.{◌≡◌, ◌-◌}
use Rattle.component_structure.specs.Bytes.{repeat}
use Rattle.core_modules.specs.Sections.{own_function, reader_view}
use Rattle.core_modules.proofs.sections.ModuleReader.functions.Given as goal

abbrev pub invariant-loop : goal.invariant-loop
invariant-loop l = record {
  whole : l.reader.end ≡ l.initial.reader.end;
  so_far : (repeat (l.count - l.counter) (own_function l.initial.reader.end) (reader_view l.self)).read l.reader.rest.now ≡ (repeat l.count (own_function l.initial.reader.end) (reader_view l.initial.self)).read l.initial.reader.rest.now;
}
