use Rattle.std.proofs.Common.{◌≡◌, ◌-◌}
use Rattle.component_structure.specs.Bytes.{repeat}
use Rattle.core_modules.specs.Sections.{import_, reader_view}
use Rattle.core_modules.proofs.sections.ModuleReader.imports.Given as goal

abbrev pub invariant-loop : goal.invariant-loop
invariant-loop l = record {
  whole : l.reader.end ≡ l.initial.reader.end;
  so_far : (repeat (l.count - l.counter) (import_ l.initial.reader.end) (reader_view l.self)).read l.reader.rest.now ≡ (repeat l.count (import_ l.initial.reader.end) (reader_view l.initial.self)).read l.initial.reader.rest.now;
}
