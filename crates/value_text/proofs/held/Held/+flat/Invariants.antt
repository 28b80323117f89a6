use Rattle.std.proofs.Common.{◌≡◌, ◌+◌, ◌*◌, ◌≤◌, List, ◌∷◌, map, take}
use Rattle.canonical_abi.specs.Flat.{FieldsLift}
use Rattle.canonical_abi.specs.Labelled.{closed_members, closed_fields}
use Rattle.canonical_abi.specs.Reading.{number_of}
use Rattle.canonical_abi.specs.Values.{Value}
use Rattle.tables.specs.Labelled.{labelled_types, labelled_members, labelled_fields}
use Rattle.value_json.proofs.RanksOfTypes.{rank}
use Rattle.value_text.specs.Flats.{flats_before}
use Rattle.value_text.specs.Function.{members_json}
use Rattle.value_text.specs.Puts.{Puts}
use Rattle.value_text.specs.Texts.{items_front, members_front}
use Rattle.value_text.proofs.Carried.{most}
use Rattle.value_text.proofs.FieldsInOrder.{members_in}
use Rattle.value_text.proofs.held.Held.+flat.Given as goal

abbrev pub decreases-write_flat : goal.decreases-write_flat
decreases-write_flat l = 4 * rank l.ty

abbrev pub decreases-write_flat_case : goal.decreases-write_flat_case
decreases-write_flat_case l = 4 * l.place + 2

abbrev pub decreases-write_flat_fields : goal.decreases-write_flat_fields
decreases-write_flat_fields l = 4 * l._place + 2

abbrev pub decreases-write_flat_members : goal.decreases-write_flat_members
decreases-write_flat_members l = 4 * most l.types.now + 2

abbrev pub decreases-write_flat_item : goal.decreases-write_flat_item
decreases-write_flat_item l = 4 * rank l.ty + 1

abbrev pub decreases-write_flat_field : goal.decreases-write_flat_field
decreases-write_flat_field l = 4 * rank l.field.now.ty + 1

abbrev pub invariant-write_flat_fields-loop-k : goal.invariant-write_flat_fields-loop-k
invariant-write_flat_fields-loop-k l =
    let rows = labelled_types l.self.types.now in record {
      front : (vs : List Value) → FieldsLift (closed_fields (labelled_fields rows l.fields)) l.self.memory.now (map number_of l.flats) vs
          → Puts (123 ∷ members_front 0 (members_in rows l.fields vs (take l.k l.order))) l.fn.room l.fn.at l.room l.end;
      few : l.end ≤ l.self.limit;
    }

abbrev pub invariant-write_flat_members-loop-index : goal.invariant-write_flat_members-loop-index
invariant-write_flat_members-loop-index l =
    let rows = labelled_types l.self.types.now in record {
      placed : l.used ≡ flats_before rows l.types l.index;
      front : (vs : List Value) → FieldsLift (closed_members (labelled_members rows l.types)) l.self.memory.now (map number_of l.flats) vs
          → Puts (91 ∷ items_front 0 (take l.index (members_json (labelled_members rows l.types) vs))) l.fn.room l.fn.at l.room l.end;
      few : l.end ≤ l.self.limit;
    }
