use Rattle.std.proofs.Common.{◌≡◌, ◌-◌, length}
use Rattle.core_modules.specs.Sections.{reader_view, nothing_read, section}
use Rattle.core_modules.proofs.sections.sections.Given as goal
use Rattle.component_structure.specs.Bytes.{if_left, repeat}

abbrev pub invariant-loop : goal.invariant-loop
invariant-loop l = record {
  whole : l.left.end ≡ l.fn.reader.end;
  so_far : (repeat (length l.fn.reader.rest.now - l.counter) (if_left (section l.fn.reader.end)) (reader_view l.module)).read l.left.rest.now ≡ (repeat (length l.fn.reader.rest.now) (if_left (section l.fn.reader.end)) nothing_read).read l.fn.reader.rest.now;
}
