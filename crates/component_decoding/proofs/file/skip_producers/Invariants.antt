use Rattle.std.proofs.Common.{◌≡◌, ◌-◌}
use Rattle.component_decoding.specs.File.{producer, no_fields}
use Rattle.component_decoding.proofs.file.skip_producers.Given as goal
use Rattle.component_structure.specs.Bytes.{repeat}

abbrev pub invariant-loop : goal.invariant-loop
invariant-loop l = record {
  whole : l.reader.end ≡ l.initial.reader.end;
  so_far : (repeat (l.count - l.counter) (producer l.initial.reader.end) l.fields).read l.reader.rest.now ≡ (repeat l.count (producer l.initial.reader.end) no_fields).read l.initial.reader.rest.now;
}
