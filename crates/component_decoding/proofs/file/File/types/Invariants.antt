use Rattle.std.proofs.Common.{◌≡◌, ◌-◌}
use Rattle.component_decoding.specs.File.{component_type, file_view}
use Rattle.component_decoding.proofs.file.File.types.Given as goal
use Rattle.component_structure.specs.Bytes.{repeat}

abbrev pub invariant-loop : goal.invariant-loop
invariant-loop l = record {
  whole : l.reader.end ≡ l.initial.reader.end;
  so_far : (repeat (l.count - l.counter) (component_type l.initial.reader.end) (file_view l.self)).read l.reader.rest.now ≡ (repeat l.count (component_type l.initial.reader.end) (file_view l.initial.self)).read l.initial.reader.rest.now;
}
