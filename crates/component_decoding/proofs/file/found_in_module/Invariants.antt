use Rattle.std.proofs.Common.{◌≡◌, ◌-◌, length, None}
use Rattle.std.specs.Option.{option_map}
use Rattle.component_decoding.specs.File.{content_view, more_module}
use Rattle.component_decoding.proofs.file.found_in_module.Given as goal
use Rattle.component_structure.specs.Bytes.{if_left, repeat}

abbrev pub invariant-loop : goal.invariant-loop
invariant-loop l = record {
  whole : l.left.end ≡ l.fn.reader.end;
  so_far : (repeat (length l.fn.reader.rest.now - l.counter) (if_left (more_module l.fn.reader.end)) (option_map content_view l.found)).read l.left.rest.now ≡ (repeat (length l.fn.reader.rest.now) (if_left (more_module l.fn.reader.end)) None).read l.fn.reader.rest.now;
}
