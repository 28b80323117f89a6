use Rattle.std.proofs.Common.{◌≡◌, ◌-◌}
use Rattle.component_decoding.specs.File.{version}
use Rattle.component_decoding.proofs.file.skip_versions.Given as goal
use Rattle.component_structure.specs.Bytes.{repeat}

abbrev pub invariant-loop : goal.invariant-loop
invariant-loop l = record {
  whole : l.reader.end ≡ l.initial.reader.end;
  so_far : (repeat (l.count - l.counter) (version l.initial.reader.end) 0).read l.reader.rest.now ≡ (repeat l.count (version l.initial.reader.end) 0).read l.initial.reader.rest.now;
}
