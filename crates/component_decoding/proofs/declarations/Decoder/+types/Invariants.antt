use Rattle.std.proofs.Common.{◌≡◌, ◌+◌, ◌-◌, ◌*◌}
use Rattle.component_structure.specs.Parts.{scope_view}
use Rattle.component_decoding.specs.Declarations.{decoder_view}
use Rattle.component_decoding.specs.Declarations.{around_view, declaration, type}
use Rattle.component_decoding.proofs.declarations.Decoder.+types.Given as goal
use Rattle.component_structure.specs.Bytes.{repeat}

abbrev pub decreases-type_entry : goal.decreases-type_entry
decreases-type_entry l = 3 * l.around.room

abbrev pub decreases-declaration : goal.decreases-declaration
decreases-declaration l = 3 * l.around.room + 1

abbrev pub decreases-nested_type : goal.decreases-nested_type
decreases-nested_type l = 3 * l.around.room + 2

abbrev pub invariant-nested_type-loop : goal.invariant-nested_type-loop
invariant-nested_type-loop l = record {
  whole : l.reader.end ≡ l.initial.reader.end;
  so_far : (repeat (l.count - l.counter) (declaration (type l.around.room) l.is_component l.initial.reader.end (around_view l.around)) (scope_view l.own, decoder_view l.self)).read l.reader.rest.now
      ≡ (repeat l.count (declaration (type l.around.room) l.is_component l.initial.reader.end (around_view l.around)) (scope_view l.initial.own, decoder_view l.initial.self)).read l.initial.reader.rest.now;
}
