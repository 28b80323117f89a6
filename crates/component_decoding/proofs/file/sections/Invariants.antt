use Rattle.std.proofs.Common.{◌≡◌, ◌-◌, length}
use Rattle.component_decoding.specs.File.{file_view, no_file, section}
use Rattle.component_decoding.proofs.file.sections.Given as goal
use Rattle.component_structure.specs.Bytes.{if_left, repeat}

abbrev pub invariant-loop : goal.invariant-loop
invariant-loop l = record {
  whole : l.left.end ≡ l.fn.reader.end;
  so_far : (repeat (length l.fn.reader.rest.now - l.counter) (if_left (section l.fn.reader.end)) (file_view l.file)).read l.left.rest.now ≡ (repeat (length l.fn.reader.rest.now) (if_left (section l.fn.reader.end)) no_file).read l.fn.reader.rest.now;
}
